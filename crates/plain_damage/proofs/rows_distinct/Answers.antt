use Prim.Native.Nat.{ℕ, ◌+◌, ◌-◌, ◌<◌}
use mathlib.Core.Path.{◌≡◌, sym, ap, ◌∙◌}
use mathlib.Core.Bool.{Bool, ◌&&◌}
use mathlib.Core.List.{[], ◌∷◌, map}
use Rattle.std.proofs.lemmas.List.{take_rest}
use native.Mathlib.Omega.{arith}
use lib.ListN.{length, take, drop, get_or, length-set}
use Rattle.fingerprint.proofs.Buckets.{bucket-lt}
use Rattle.rows.specs.Row.{row_of}
use Rattle.plain.specs.Damage.{distinct}
use Rattle.plain_damage.proofs.Buckets.{seen_in}
use Rattle.plain_damage.proofs.Prints.{prints_of, few-distinct, none-seen, prints-next, apart_next, seen_next, apart-unseen}
use Rattle.plain_damage.proofs.rows_distinct.Goals as goal
use Rattle.plain_damage.proofs.rows_distinct.Goals.{then-seen-b-ne0, else-seen-b-ne0}

pub returns-then-rows-lt2 : goal.returns-then-rows-lt2
returns-then-rows-lt2 c = sym (few-distinct c.args.rows.now c.if-rows-lt2.true)

pub loop-i-init : goal.loop-i-init
loop-i-init c = none-seen c.args.rows.now

pub bounds-seen-b : goal.bounds-seen-b
bounds-seen-b c = omega (arith, c.bucket-b.ensures, bucket-lt c.row_print-print.result)

pub first_distinct-apart-requires : goal.first_distinct-apart-requires
first_distinct-apart-requires c =
    let l = c.loop-i in
    let rs = c.args.rows.now in
    let a : l.i ≡ l.i - 1 + 1 = omega (arith, c.loop-i-test.true) in
    (c.row_print-print.ensures, ap (λ (k : ℕ). take (length rs - k) (drop k l.prints)) (sym a) ∙ l.invariant.1.1.0 ∙ ap (λ (k : ℕ). prints_of (drop k rs)) a ∙ sym (ap prints_of (take_rest rs (l.i - 1 + 1))))

pub bounds-seen-b-in-loop-i : goal.bounds-seen-b-in-loop-i
bounds-seen-b-in-loop-i c = omega (arith, c.bucket-b.ensures, bucket-lt c.row_print-print.result)

pub loop-i-preserved : goal.loop-i-preserved
loop-i-preserved c =
    let l = c.loop-i in
    let rs = c.args.rows.now in
    let i = l.i - 1 in
    let a : l.i ≡ i + 1 = omega (arith, c.loop-i-test.true) in
    let h : i < length rs = omega (arith, c.loop-i-test.true, l.auto.i) in
    let inv = l.invariant in
    let print = c.row_print-print.result in
    let seen = inv.1.0 ∙ ap (λ (k : ℕ). seen_in (prints_of (drop k rs))) a in
    let prints = sym (ap (λ (k : ℕ). take (length rs - k) (drop k l.prints)) a) ∙ inv.1.1.0 ∙ ap (λ (k : ℕ). prints_of (drop k rs)) a in
    let with_rest : (r : Bool) → (r && distinct (map row_of (take (length rs - (i + 1)) (drop (i + 1) rs)))) ≡ distinct (row_of (get_or rs i []) ∷ map row_of (take (length rs - (i + 1)) (drop (i + 1) rs)))
    → (r && distinct (map row_of (drop (i + 1) rs))) ≡ distinct (row_of (get_or rs i []) ∷ map row_of (drop (i + 1) rs)) =
    λ r e. rw take_rest at e in
    let apart = inv.1.1.1 ∙ ap (λ (k : ℕ). distinct (map row_of (drop k rs))) a in (
      length-set l.prints i print ∙ inv.0,
      (
        seen_next rs i h l.seen print c.bucket-b.result c.bucket-b.ensures c.row_print-print.ensures seen,
        (
          prints-next rs i h l.prints print (omega (arith, inv.0, c.requires)) c.row_print-print.ensures prints,
          elim c.if-seen-b-ne0.branch [
            | then-seen-b-ne0 w ↦ ◌∙◌ {b = l.apart && w.first_distinct-apart.result} w.apart-is (apart_next rs i h l.apart w.first_distinct-apart.result apart (with_rest w.first_distinct-apart.result w.first_distinct-apart.ensures))
            | else-seen-b-ne0 w ↦
                w.apart-is ∙ apart ∙ apart-unseen rs i h l.seen print c.bucket-b.result c.bucket-b.ensures c.row_print-print.ensures seen w.if-seen-b-ne0.false
          ],
        ),
      ),
    )
