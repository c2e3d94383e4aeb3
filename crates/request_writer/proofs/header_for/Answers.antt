use borrow.Author.Rules.{rules}
use Prim.Native.Nat.{◌+◌, ◌≤◌}
use mathlib.Core.Path.{◌≡◌}
use native.Mathlib.Omega.{arith}
use borrow.Author.Tests.{le-leb}
use Rattle.std.proofs.Common.{Some}
use Rattle.request_writer.specs.Writing.{header_for}
use Rattle.request_writer.proofs.header_for.Goals as goal

pub returns : goal.returns
unfolding header_for
returns c =
    let a = c.args in
    let extlen : c.in_ok-extlen.extlen ≡ a.extras = search rules in
    let keylen : c.in_ok-keylen.keylen ≡ a.key = search rules in
    let body : c.in_ok-body.body ≡ a.extras + a.key + a.value = search rules in
    let narrow : a.extras ≤ 255 = search rules in
    let short : a.extras + a.key + a.value ≤ 1400 = omega (arith, body, c.if-body-gt-LONGEST_BODY.false) in
    rw (le-leb a.extras 255 narrow, le-leb (a.extras + a.key + a.value) 1400 short)
    (λ i. Some (record {
      magic = 0x80;
      opcode = a.f.opcode;
      keylen = keylen i;
      extlen = extlen i;
      datatype = a.f.datatype;
      vbucket = a.f.vbucket;
      body = body i;
      opaque = a.f.opaque;
      cas = a.f.cas;
    }))
