-- What one served frame adds fits the area that it is written to, and the trace grows by it.
use native.Mathlib.Omega.{arith}
use Prim.Native.Nat.{ℕ, ◌+◌, ◌-◌, ◌≤◌, ◌<◌}
use mathlib.Core.Path.{◌≡◌, refl, sym, ap, subst, ◌∙◌}
use mathlib.Core.Bool.{Bool, true, false}
use mathlib.Core.List.{List}
use borrow.Author.Tests.{le-leb, lt-ltb, le-ltb}
use lib.ListN.{length, take}
use lib.Seq.{take_all}
use Rattle.std.specs.Prelude.{IsTrue}
use Rattle.std.specs.declared.option.Option.{Option}
use Rattle.std.specs.Io.KnownBytes.{Appends}
use Rattle.octets.specs.Parts.{Bytes, part, pasted, written}
use Rattle.octets.proofs.Lists.{part-most, take-pasted, written-fits, length-pasted}
use Rattle.engine.specs.declared.Config.{Config}
use Rattle.request.specs.Reading.{Gate, Stop, Whole}
use Rattle.engines.proofs.Tables.{sound-plain}
use Rattle.reply.proofs.Frames.{reply-most}
use Rattle.serving.specs.Serve.{Served, Refused, Done, served_used, served_length, gate_all, answer_by, served}
use Rattle.serving.proofs.Gated.{was-open}
use Rattle.trace_writer.specs.Writing.{frame_fields, opening_bytes, length_put}
use Rattle.trace_writer.proofs.FieldLaws.{length-frame, frame-most, length-opening}
use Rattle.contact_box.specs.declared.recorder.Recorder.{Recorder}
use Rattle.contact_box.specs.declared.recorder.Recording.TheVariants.{Full}
use Rattle.contact_box.specs.Recorder.{opened, stopped, grown, Grows, Short, Hands}
use Rattle.contact_box.specs.Session.{first_frame}
use Rattle.contact_box.proofs.First.{first-whole}

-- ---- no frame is over 1,424 bytes, no reply over 1,302
abbrev Bounded : Served → Type 0
Bounded r = (served_used r ≤ 1424) × (served_length r ≤ 1302)

bounded-by : (config : Config) (b s : List ℕ) (clock room : ℕ) (g : Gate) → gate_all config b room s ≡ g → Bytes b → Bounded (answer_by config b clock s g)
bounded-by config b s clock room (Stop n need) q y = (omega arith, omega arith)
bounded-by config b s clock room (Whole h) q y =
    let w = was-open config b s room h q in (omega (arith, w.frame.limit), reply-most config b clock s h y (sound-plain config b w.undamaged))

bounded : (config : Config) (b : List ℕ) (clock : ℕ) (s : List ℕ) (room : ℕ) (r : Served) → r ≡ served config b clock s room → Bytes b → Bounded r
unfolding served
bounded config b clock s room r e y = subst Bounded (sym e) (bounded-by config b s clock room (gate_all config b room s) refl y)

pub short : (config : Config) (b : List ℕ) (clock : ℕ) (run out frame reply : List ℕ) (room len : ℕ) (r : Served)
    → r ≡ served config b clock frame room → Bytes b → frame ≡ first_frame run → len ≡ served_length r → reply ≡ part out 0 len → Short r frame reply
short config b clock run out frame reply room len (Refused n need) e y f l q = tt
short config b clock run out frame reply room len (Done st used k) e y f l q =
    let m = bounded config b clock frame room (Done st used k) e y in
    let g = ap (λ (ys : List ℕ). served config b clock ys room) (sym f) ∙ sym e in
    (omega (arith, ap length f, first-whole run config b clock room st used k g, m.0), omega (arith, ap length q, part-most out 0 len, l, m.1))

-- ---- what was handed to the trace's writer
put-whole : (s s' xs : List ℕ) → length xs ≤ length s → s' ≡ written s 0 xs → take (length xs) s' ≡ xs
put-whole s s' xs h w =
    let j : 0 + length xs ≤ length s = omega (arith, h) in
    let k : length xs ≡ 0 + length xs = omega arith in
    ap (take (length xs)) (w ∙ written-fits s 0 xs j) ∙ ap (λ (n : ℕ). take n (pasted s 0 xs)) k ∙ take-pasted s 0 xs j

pub hands-opened : (old new : Option (List ℕ)) (x : Recorder) (w : Bool) (s s' : List ℕ) (mode vbucket : ℕ) → length s ≡ 7
    → s' ≡ written s 0 (opening_bytes mode vbucket) → x ≡ opened w → (IsTrue w → Appends old new s') → Hands x.recording old new (opening_bytes mode vbucket)
hands-opened old new x true s s' mode vbucket l q e h =
    let xs = opening_bytes mode vbucket in
    let m : length xs ≤ length s = omega (arith, l, length-opening mode vbucket) in
    let p : take (length xs) s' ≡ xs = put-whole s s' xs m q in
    let n : length s' ≤ length xs = omega (arith, ap length (q ∙ written-fits s 0 xs (omega (arith, m))), length-pasted s 0 xs (omega (arith, m)), l, length-opening mode vbucket) in
    subst (λ (v : Recorder). Hands v.recording old new xs) (sym e) (subst (Appends old new) (sym (take_all (length xs) s' n) ∙ p) (h refl))
hands-opened old new x false s s' mode vbucket l q e h =
    subst (λ (v : Recorder). Hands v.recording old new (opening_bytes mode vbucket)) (sym e) tt

-- ---- the area has room, so a frame's fields are left out only where the trace would be too long
module _ (r : Recorder) (clock : ℕ) (frame reply : List ℕ) (f : length frame ≤ 1424) (q : length reply ≤ 1302) (n m : ℕ)
    (put : n ≡ length_put 2739 (frame_fields r.clock clock frame reply)) (left : m ≡ 65536 - r.at) where
  abbrev fields : List ℕ
  fields = frame_fields r.clock clock frame reply

  least : length fields ≤ 2739
  least = omega (arith, frame-most r.clock clock frame reply, f, q)

  size : n ≡ length fields
  size = put ∙ rw (le-leb (length fields) 2739 least)

  pub is-full : (x : Recorder) → m < n → x ≡ stopped r Full → Grows r clock fields x
  is-full x h e = record { written = false; now = e ∙ rw (lt-ltb (65536 - r.at) (length fields) (omega (arith, size, left))) }

  pub inside : n ≤ m → r.at + n ≤ 65536
  inside h = omega (arith, left, size, length-frame r.clock clock frame reply)

  pub goes_on : (x : Recorder) (written : Bool) → n ≤ m → x ≡ grown r clock n written → Grows r clock fields x
  goes_on x written h e = record {
    written = written;
    now = e ∙ ap (λ (k : ℕ). grown r clock k written) size ∙ rw (le-ltb (65536 - r.at) (length fields) (omega (arith, size, left)));
  }

  pub hands-grown : (old new : Option (List ℕ)) (x : Recorder) (w : Bool) (s s' p : List ℕ) → length s ≡ 2739 → s' ≡ written s 0 fields → p ≡ part s' 0 n
      → x ≡ grown r clock n w → (IsTrue w → Appends old new p) → Hands x.recording old new fields
  hands-grown old new x true s s' p l t u e h =
      let k : p ≡ fields = u ∙ ap (λ (i : ℕ). take i s') size ∙ put-whole s s' fields (omega (arith, l, least)) t in
      subst (λ (v : Recorder). Hands v.recording old new fields) (sym e) (subst (Appends old new) k (h refl))
  hands-grown old new x false s s' p l t u e h = subst (λ (v : Recorder). Hands v.recording old new fields) (sym e) tt
