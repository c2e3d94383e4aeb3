-- What is written for a line, piece after piece, is the line.
use Prim.Native.Nat.{ℕ, ◌+◌, ◌≤◌}
use native.Mathlib.Omega.{arith}
use native.Mathlib.Nat.{zero-add}
use mathlib.Core.Path.{◌≡◌, ap, ◌∙◌, sym}
use mathlib.Core.List.{List, [], ◌∷◌, ◌++◌}
use lib.ListN.{length, take, length-append}
use Rattle.octets.specs.Parts.{part, pasted, written}
use Rattle.octets.proofs.Lists.{take-pasted, written-fits, then-two}
use Rattle.digits.specs.Decimal.{digits}
use Rattle.digits.proofs.DecimalLaws.{digits-most}
use Rattle.contact_replay.specs.Line.{said}

-- the digits that were spelled in room for 20
spelled-part : (room : List ℕ) (n : ℕ) → length room ≡ 20 → part (pasted room 0 (digits n)) 0 (length (digits n)) ≡ digits n
spelled-part room n e =
    ap (λ (i : ℕ). take i (pasted room 0 (digits n))) (sym (zero-add (length (digits n)))) ∙ take-pasted room 0 (digits n) (omega (arith, digits-most n))

module _ (out word room : List ℕ) (n : ℕ) (e : length room ≡ 20) (h : length word + 21 ≤ length out) where
  pub put-said : (s1 s2 s3 digs piece : List ℕ) (k : ℕ) → k ≡ length (digits n) → digs ≡ pasted room 0 (digits n) → piece ≡ part digs 0 k
      → s1 ≡ written out 0 word → s2 ≡ written s1 (length word) piece → s3 ≡ written s2 (length word + k) (10 ∷ [])
      → take (length word + k + 1) s3 ≡ said word n
  put-said s1 s2 s3 digs piece k d f p a b c =
      let most : length (digits n) ≤ 20 = digits-most n in
      let q : piece ≡ digits n = p ∙ rw (f, d) (spelled-part room n e) in
      let l : length piece ≡ length (digits n) = ap length q in
      let w : length (said word n) ≡ length word + (length (digits n) + 1) = simp (length-append, length-append) in
      let t : s3 ≡ written out 0 (word ++ (piece ++ (10 ∷ []))) =
      then-two out s1 s2 s3 0 (length word) (length word + k) word piece (10 ∷ []) a b c (omega arith) (omega arith) (omega arith) in
      let x : s3 ≡ written out 0 (said word n) = t ∙ ap (λ (ds : List ℕ). written out 0 (word ++ (ds ++ (10 ∷ [])))) q in
      let i : length word + k + 1 ≡ 0 + length (said word n) = omega arith in
      rw (x, written-fits out 0 (said word n) (omega arith), i) (take-pasted out 0 (said word n) (omega arith))
