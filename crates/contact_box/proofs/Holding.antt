-- What is held where some of it is consumed, moved to the start, or read on behind.
use native.Mathlib.Omega.{arith}
use Prim.Native.Nat.{ℕ, zero, suc, ◌+◌, ◌-◌, ◌≤◌, ◌<◌, ◌^◌}
use mathlib.Core.Path.{◌≡◌, sym, ap, subst, ◌∙◌}
use mathlib.Core.List.{List, ◌++◌}
use lib.ListN.{length, take, drop, length-take, length-drop}
use lib.Seq.{drop-drop, take_at}
use Rattle.octets.specs.Parts.{part, written}
use Rattle.octets.proofs.Lists.{take-pasted, written-fits}
use Rattle.header.specs.Header.{header_of}
use Rattle.engine.specs.declared.Config.{Config}
use Rattle.tally.specs.declared.Tally.{Tally}
use Rattle.serving.specs.Serve.{Served, Refused, Done, served_used, served}
use Rattle.run.specs.Run.{Ran, Stand, called_on, further, on_done, stand_after, begun, run_end, ran_of}
use Rattle.run.proofs.Laws.{used-fits}
use Rattle.contact_box.specs.declared.session.Held.{Held}
use Rattle.contact_box.specs.Session.{held_of, past, first_frame}

-- ---- past what was consumed
module _ (h : Held) (s : List ℕ) (used : ℕ) where
  pub held-past : held_of (past h used) s ≡ drop used (held_of h s)
  held-past = sym (drop-drop used h.at (take h.end s))

  -- no more is consumed than is held, so its end is a place
  pub past_fits : (run : List ℕ) → run ≡ held_of h s → used ≤ length run → h.at < 2 ^ 64 → length s < 2 ^ 64 → h.at + used < 2 ^ 64
  past_fits run e u k l =
      let n : length run ≡ length (take h.end s) - h.at = ap length e ∙ length-drop h.at (take h.end s) in
      let m : length (take h.end s) ≡ _ = length-take h.end s in
      omega (arith, n, m, u, k, l)

pub used-inside : (config : Config) (b : List ℕ) (clock room : ℕ) (run frame : List ℕ) (r : Served) (used : ℕ) → frame ≡ first_frame run
    → r ≡ served config b clock frame room → used ≡ served_used r → used ≤ length run
used-inside config b clock room run frame r used f e u =
    let n : used ≤ length frame = rw (u, e) (used-fits config b clock frame room) in
    omega (arith, n, ap length f, length-take (24 + (header_of run).body) run)

-- ---- a run consumes no more than its bytes
by-done : (m : ℕ) (r : Served) (x : Stand) (go : ℕ → ℕ → ℕ → Stand) → x.at ≤ m → ((st used len : ℕ) → used ≤ served_used r → (go st used len).at ≤ m) → (on_done r x go).at ≤ m
by-done m (Refused n need) x go h f = h
by-done m (Done st used len) x go h f = f st used len (omega arith)

module _ (config : Config) (clock : ℕ) (run : List ℕ) where
  stand-inside : (n : ℕ) (x : Stand) → x.at ≤ length run → (stand_after config n clock run x).at ≤ length run
  unfolding stand_after
  stand-inside zero x h = h
  stand-inside (suc n) x h =
      by-done (length run) (called_on config clock run x) x (λ st used len. stand_after config n clock run (further config clock run x st used len)) h
      (λ st used len u.
      stand-inside n (further config clock run x st used len)
      (omega (arith, h, u, used-fits config x.table clock (drop x.at run) (length x.reply - x.filled), length-drop x.at run)))

  pub ran-inside : (b out : List ℕ) (t : Tally) (r : Ran) → r ≡ ran_of config clock run (run_end config clock run (begun b out t)) → r.cursor.at ≤ length run
  unfolding run_end ran_of
  ran-inside b out t r e = subst (λ (x : Ran). x.cursor.at ≤ length run) (sym e) (stand-inside (length run) (begun b out t) (omega arith))

-- ---- to the start
-- by way of an array, whose first n bytes are copied from them
pub some-kept : (held xs copied rest p s s' : List ℕ) (n : ℕ) → held ≡ xs → length xs ≤ length s → n ≡ length held → copied ≡ held
    → p ≡ part (copied ++ rest) 0 n → s' ≡ written s 0 p → (n ≡ length xs) × (take n s' ≡ xs)
some-kept held xs copied rest p s s' n e h l c q w =
    let m : n ≡ length xs = l ∙ ap length e in
    let y : p ≡ xs = q ∙ ap (λ (ys : List ℕ). take n (ys ++ rest)) (c ∙ e) ∙ take_at xs rest n (sym m) in
    let k : n ≡ 0 + length xs = omega (arith, m) in
    let j : 0 + length xs ≤ length s = omega (arith, h) in
    (m, (λ i. take (k i) ((w ∙ ap (written s 0) y ∙ written-fits s 0 xs j) i)) ∙ take-pasted s 0 xs j)
