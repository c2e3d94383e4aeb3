-- `main` is safe: it lends what was read. The length of the input's room is told by a lemma, since 524,288 elements are too many to lay out.
use Rattle.std.proofs.Common.{ℕ, ◌≡◌, length, sym}
use lib.ListN.{replicate, length-replicate}
use Rattle.store_vectors.proofs.main.Goals as goal

filled : (n x : ℕ) → n ≡ length (replicate n x)
filled n x = sym (length-replicate n x)

pub slice_bounds-read_full-end : goal.slice_bounds-read_full-end
slice_bounds-read_full-end c = filled 524288 0

pub slice_bounds-input-end : goal.slice_bounds-input-end
slice_bounds-input-end c = c.read_full-n.ensures.0

pub slice_bounds-answer_lines-end : goal.slice_bounds-answer_lines-end
slice_bounds-answer_lines-end c = c.read_full-n.ensures.1
