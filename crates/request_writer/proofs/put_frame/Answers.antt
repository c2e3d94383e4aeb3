use Prim.Native.Nat.{◌+◌}
use mathlib.Core.Path.{◌≡◌, ap}
use mathlib.Core.List.{◌++◌, append_assoc}
use native.Mathlib.Omega.{arith}
use lib.ListN.{length, length-append}
use Rattle.octets.proofs.Lists.{then, then-two}
use Rattle.header.specs.declared.Layout.{Layout}
use Rattle.header.specs.Header.{header_bytes}
use Rattle.header.proofs.HeaderLaws.{length-header}
use Rattle.request_writer.proofs.put_frame.Goals as goal

pub returns : goal.returns
returns c =
    let value = c.put_bytes-3.ensures in
    let key = c.put_bytes-2.ensures in
    let extras = c.put_bytes.ensures in
    let header = c.put.ensures in
    let called = c.layout_of-l in
    let a = c.args in
    let l = called.result in
    let p : l.extras ≡ 24 = ap (λ (x : Layout). x.extras) called.ensures in
    let q : l.key ≡ 24 + a.h.extlen = ap (λ (x : Layout). x.key) called.ensures in
    let r : l.value ≡ 24 + a.h.extlen + a.h.keylen = ap (λ (x : Layout). x.value) called.ensures in
    let e : length a.extras.now ≡ a.h.extlen = c.requires.0 in
    let k : length a.key.now ≡ a.h.keylen = c.requires.1.0 in
    let fits = c.requires.1.1 in
    let d =
    then-two _ _ _ _ 0 l.extras l.key (header_bytes a.h) a.extras.now a.key.now header extras key
    (omega (arith, length-header a.h)) (omega arith) (omega arith) in
    let n : length (header_bytes a.h ++ (a.extras.now ++ a.key.now)) ≡ 24 + a.h.extlen + a.h.keylen =
    simp (length-append, length-header) (omega arith) in
    rw (append_assoc, append_assoc) at (then _ _ _ 0 l.value (header_bytes a.h ++ (a.extras.now ++ a.key.now)) a.value.now d value
    (omega arith) (omega arith))
