-- `paste_run` meets its contract: its two parts cover what is written.
use Prim.Native.Nat.{ℕ, ◌+◌, ◌*◌, ◌-◌, ◌/◌, ◌≤◌}
use Rattle.octets.proofs.Lists.{take_rest, pasted-cover}
use Rattle.octets.specs.Parts.{pasted}
use lib.ListN.{length, take, drop, length-take}
use lib.Seq.{length-take-le}
use mathlib.Core.List.{List}
use mathlib.Core.Path.{◌≡◌, sym, ◌∙◌}
use native.Mathlib.Omega.{arith}
use Rattle.octet_writer.proofs.paste_run.Goals as goal

-- `paste_run` meets its contract: its two parts cover what is written.
-- what the two parts leave, the last 32 bytes by way of an array
run : (o s e o1 o2 : List ℕ) (at : ℕ) → 32 ≤ length s → at + length s ≤ length o → e ≡ drop (length s - 32) s
    → o1 ≡ pasted o at (take (length s / 32 * 32) s) → o2 ≡ pasted o1 (at + (length s - 32)) e → o2 ≡ pasted o at s
run o s e o1 o2 at h k f q r =
    let last = length s - 32 in
    r ∙ (λ i. pasted (q i) (at + last) (f i)) ∙ pasted-cover o at s (length s / 32 * 32) last (omega arith) (omega arith) k

pub slice_bounds-paste-end : goal.slice_bounds-paste-end
slice_bounds-paste-end c = let s = c.args.s.now in sym (length-take-le (length s / 32 * 32) s (omega arith))

pub paste-requires : goal.paste-requires
paste-requires c = simp length-take (omega arith)

pub returns : goal.returns
returns c =
    let a = c.args in
    run a.out.now a.s.now _ _ _ a.at (omega arith) (omega arith) (c.copy_from_slice.ensures.after ∙ take_rest a.s.now (length a.s.now - 32)) c.paste.ensures c.paste-2.ensures
