use Prim.Native.Nat.{ℕ}
use mathlib.Core.Path.{ap, ◌∙◌}
use Rattle.octets.specs.Parts.{written}
use Rattle.header.specs.Header.{header_bytes}
use Rattle.serving.specs.Reply.{header_with}
use Rattle.decision.specs.Decision.{decision_told}
use native.Mathlib.Omega.{arith}
use lib.ListN.{length}
use Rattle.step.proofs.Answers.{keys-short, silent-listing, listing-written}
use Rattle.step.proofs.put_listing.Goals as goal

pub returns-then-d : goal.returns-then-d
returns-then-d c =
    let a = c.args in
    silent-listing a.config a.b.now a.clock a.h (decision_told a.d) a.start.now a.count a.out.now c.if-d.true

pub overflow_cast-n : goal.overflow_cast-n
overflow_cast-n c =
    let a = c.args in
    let size = c.put_keys-n.ensures in
    record { fits = omega (arith, size, keys-short a.config (length a.out.now) a.b.now a.clock a.start.now a.count) }

pub overflow_add-result : goal.overflow_add-result
overflow_add-result c =
    let a = c.args in
    let size = c.put_keys-n.ensures in
    record { fits = omega (arith, size, keys-short a.config (length a.out.now) a.b.now a.clock a.start.now a.count) }

pub returns : goal.returns
returns c =
    let a = c.args in
    let k = c.put_keys-n.ensures in
    listing-written a.config a.b.now a.clock a.h (decision_told a.d) a.start.now a.count a.out.now c.requires.1
    _ _ _ c.if-d.false c.requires.0 k.0 k.1
    (c.put_value_header.ensures
    ∙ ap (λ (n : ℕ). written c.put_keys-n.new.out 0 (header_bytes (header_with a.h.opcode a.h.opaque n 0 0 c.put_keys-n.result a.d.done.cas))) c.status_of-status.ensures)
