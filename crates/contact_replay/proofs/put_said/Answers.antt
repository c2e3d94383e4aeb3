-- `put_said` puts a word, the digits and a line feed, one after another; a number has at most 20 digits.
use native.Mathlib.Omega.{arith}
use mathlib.Core.Path.{◌≡◌, refl}
use lib.ListN.{length}
use Rattle.digits.specs.Decimal.{digits}
use Rattle.digits.proofs.DecimalLaws.{digits-most}
use Rattle.contact_replay.proofs.Lines.{put-said}
use Rattle.contact_replay.proofs.put_said.Goals as goal

pub overflow_add-end : goal.overflow_add-end
overflow_add-end c =
    let args = c.args in
    let e : c.put_number-k.result ≡ length (digits args.n) = c.put_number-k.ensures.0 in
    record { fits = omega (arith, digits-most args.n) }

pub overflow_add-result : goal.overflow_add-result
overflow_add-result c =
    let args = c.args in
    let put-number = c.put_number-k in
    let e : put-number.result ≡ length (digits args.n) = put-number.ensures.0 in
    record { fits = omega (arith, digits-most args.n) }

pub returns : goal.returns
returns c =
    let put-number = c.put_number-k in
    put-said _ _ _ c.args.n refl c.requires _ _ _ _ _ _ put-number.ensures.0 put-number.ensures.1
    c.part.ensures c.put_bytes.ensures c.put_bytes-2.ensures c.put_bytes-3.ensures
