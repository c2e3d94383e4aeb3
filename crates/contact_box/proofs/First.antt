-- The first frame of a run says the same of its length as the run does, so it is served whole, or is all that there is.
use native.Mathlib.Omega.{arith}
use Prim.Native.Nat.{ℕ, ◌+◌, ◌≤◌, ◌<◌}
use mathlib.Core.Path.{◌≡◌, refl, sym, ap, ◌∙◌}
use mathlib.Core.List.{List}
use lib.Dec.{ltb}
use lib.ListN.{length, take, drop, length-take, take-append-drop}
use lib.Seq.{take_all}
use borrow.Author.Tests.{ltb-true, ltb-false}
use Rattle.octets.specs.Parts.{part}
use Rattle.octets.specs.BigEndian.{be}
use Rattle.octets.proofs.Choices.{cases}
use Rattle.octets.proofs.Lists.{part-front}
use Rattle.header.specs.declared.Header.{Header}
use Rattle.header.specs.Header.{header_of}
use Rattle.engine.specs.declared.Config.{Config}
use Rattle.request.specs.Reading.{Gate, Stop, Whole}
use Rattle.serving.specs.Serve.{Refused, Done, gate_all, answer_by, served}
use Rattle.serving.proofs.Gated.{was-open}
use Rattle.contact_box.specs.Session.{first_frame}
use Rattle.contact_box.proofs.Waiting.{cut}

body-taken : (s : List ℕ) (n : ℕ) → 24 ≤ n → (header_of (take n s)).body ≡ (header_of s).body
unfolding header_of
body-taken s n h =
    cases (ltb (length s) 24)
    (λ t. ap (λ (ys : List ℕ). (header_of ys).body) (take_all n s (omega (arith, h, ltb-true (length s) 24 t))))
    (λ f.
    let l : 24 ≤ length (take n s) = simp length-take (omega (arith, h, ltb-false (length s) 24 f)) in
    ap be (sym (part-front (take n s) (drop n s) 8 4 (omega (arith, l))) ∙ ap (λ (ys : List ℕ). part ys 8 4) (take-append-drop n s)))

module _ (run : List ℕ) where
  same_body : (header_of (first_frame run)).body ≡ (header_of run).body
  same_body = body-taken run (24 + (header_of run).body) (omega arith)

  size : length (first_frame run) ≤ 24 + (header_of run).body
  size = simp length-take (omega arith)

  pub first-cut : (config : Config) (b : List ℕ) (clock room need : ℕ) → served config b clock (first_frame run) room ≡ Refused 1 need → length run < 1424
  first-cut config b clock room need e =
      let c = cut config b clock (first_frame run) room need e in
      let l : length (first_frame run) ≡ _ = length-take (24 + (header_of run).body) run in
      omega (arith, c.0, c.1, l, same_body)

  whole_by : (config : Config) (b : List ℕ) (clock room st used len : ℕ) (g : Gate) → gate_all config b room (first_frame run) ≡ g
      → answer_by config b clock (first_frame run) g ≡ Done st used len → used ≡ length (first_frame run)
  whole_by config b clock room st used len (Stop k need) q e = absurd (let y : ◌≡◌ {A = ℕ} 0 1 = cc in omega arith)
  whole_by config b clock room st used len (Whole h) q e =
      let u : 24 + h.body ≡ used = cc in
      let w = was-open config b (first_frame run) room h q in
      omega (arith, u, w.frame.inside, ap (λ (x : Header). x.body) w.frame.header, same_body, size)

  pub first-whole : (config : Config) (b : List ℕ) (clock room st used len : ℕ)
      → served config b clock (first_frame run) room ≡ Done st used len → used ≡ length (first_frame run)
  unfolding served
  first-whole config b clock room st used len e = whole_by config b clock room st used len (gate_all config b room (first_frame run)) refl e
