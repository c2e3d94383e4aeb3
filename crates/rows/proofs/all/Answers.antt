use mathlib.Core.Path.{◌≡◌, ap, ◌∙◌}
use mathlib.Core.List.{List}
use Prim.Native.Nat.{ℕ, ◌/◌}
use lib.ListN.{length, drop, length-drop}
use Rattle.std.specs.Simd.{first_chunks}
use Rattle.rows.specs.Table.{row_count}
use Rattle.rows.proofs.OneRow.{runs-chunks}
use Rattle.rows.proofs.all.Goals as goal

pub returns : goal.returns
returns c =
    let b = c.args.s.now in
    let e : c.rest.result.now ≡ drop 16 b = c.rest.ensures in
    let n : length c.rest.result.now / 1312 ≡ row_count b = ap (λ (s : List ℕ). length s / 1312) e ∙ ap (λ (k : ℕ). k / 1312) (length-drop 16 b) in
    (c.as_chunks.ensures.front ∙ (λ i. first_chunks 1312 (n i) (e i)) ∙ runs-chunks (row_count b) (drop 16 b), c.as_chunks.ensures.front_len ∙ n)
