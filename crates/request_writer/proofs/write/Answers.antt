use borrow.Author.Rules.{rules}
use Prim.Native.Nat.{◌+◌}
use mathlib.Core.Path.{◌≡◌, refl, sym, ap, ◌∙◌}
use mathlib.Core.List.{◌++◌}
use native.Mathlib.Omega.{arith}
use lib.ListN.{length}
use Rattle.std.proofs.Common.{Err, None, Some}
use Rattle.octets.specs.Parts.{written}
use Rattle.outcome.proofs.StatusLaws.{no-success}
use Rattle.header.specs.declared.Header.{Header}
use Rattle.header.specs.declared.Layout.{Layout}
use Rattle.header.specs.Header.{header_bytes}
use Rattle.header.specs.Layout.{layout_of}
use Rattle.rules.specs.Rules.{status}
use Rattle.request_writer.specs.declared.WriteError.TheVariants.{Refused as NotWritten}
use Rattle.request_writer.specs.Writing.{Wrote, header_for, frame_bytes, FieldsFit}
use Rattle.request_writer.proofs.WriterLaws.{headed, headless, against-rules, no_room, wrote}
use Rattle.request_writer.proofs.write.Goals as goal

-- where a frame of the header for these lengths ends
ends : (l : Layout) (h g : Header) → l ≡ layout_of h → h ≡ g → l.end ≡ 24 + g.body
ends l h g e f = ap (λ (x : Layout). x.end) e ∙ ap (λ (x : Header). 24 + x.body) f

pub returns-in_err-h : goal.returns-in_err-h
returns-in_err-h c =
    let a = c.args in
    let fit : FieldsFit a.f = record { opcode = search rules; datatype = search rules; vbucket = search rules; opaque = search rules; cas = search rules } in
    let none : c.header_for.result ≡ None = c.in_err-h.ensures.ok_part in
    let told : c.from_residual.result ≡ Err NotWritten = search rules in
    let x = headless a.f a.extras.now a.key.now a.value.now (length a.out.now) fit (sym c.header_for.ensures ∙ none) in
    rw told (sym x, refl)

pub returns-in_err-status : goal.returns-in_err-status
returns-in_err-status c =
    let a = c.args in
    let fit : FieldsFit a.f = record { opcode = search rules; datatype = search rules; vbucket = search rules; opaque = search rules; cas = search rules } in
    let made : c.header_for.result ≡ Some c.in_ok-h.h = c.in_ok-h.ensures.ok_part in
    let n = headed a.f (length a.extras.now) (length a.key.now) (length a.value.now) c.in_ok-h.h (sym c.header_for.ensures ∙ made) in
    let told : c.from_residual-in_err-status.result ≡ Err NotWritten = search rules in
    let s = c.in_err-status.ensures ∙ ap (λ (h : Header). status h a.extras.now a.value.now) n.header in
    let x =
    against-rules a.f a.extras.now a.key.now a.value.now (length a.out.now) fit n.narrow n.short
    (λ z. no-success c.in_err-status.field-0.0 (s ∙ z)) in
    rw told (sym x, refl)

pub returns-then-out-end : goal.returns-then-out-end
unfolding header_for
returns-then-out-end c =
    let a = c.args in
    let fit : FieldsFit a.f = record { opcode = search rules; datatype = search rules; vbucket = search rules; opaque = search rules; cas = search rules } in
    let made : c.header_for.result ≡ Some c.in_ok-h.h = c.in_ok-h.ensures.ok_part in
    let n = headed a.f (length a.extras.now) (length a.key.now) (length a.value.now) c.in_ok-h.h (sym c.header_for.ensures ∙ made) in
    let s = c.in_ok-status.ensures ∙ ap (λ (h : Header). status h a.extras.now a.value.now) n.header in
    let e = ends _ _ _ c.layout_of-end.ensures n.header in
    let x =
    no_room a.f a.extras.now a.key.now a.value.now (length a.out.now) fit n.narrow n.short (sym s) (omega (arith, e, c.if-out-end.true)) in
    (sym x, refl)

pub put_frame-requires : goal.put_frame-requires
unfolding header_for
put_frame-requires c =
    let a = c.args in
    let made : c.header_for.result ≡ Some c.in_ok-h.h = c.in_ok-h.ensures.ok_part in
    let n = headed a.f (length a.extras.now) (length a.key.now) (length a.value.now) c.in_ok-h.h (sym c.header_for.ensures ∙ made) in
    let e = ends _ _ _ c.layout_of-end.ensures n.header in (
      sym (ap (λ (x : Header). x.extlen) n.header),
      (sym (ap (λ (x : Header). x.keylen) n.header), omega (arith, e, ap (λ (x : Header). x.extlen) n.header, ap (λ (x : Header). x.keylen) n.header, c.if-out-end.false)),
    )

pub returns : goal.returns
unfolding frame_bytes header_for
returns c =
    let a = c.args in
    let fit : FieldsFit a.f = record { opcode = search rules; datatype = search rules; vbucket = search rules; opaque = search rules; cas = search rules } in
    let made : c.header_for.result ≡ Some c.in_ok-h.h = c.in_ok-h.ensures.ok_part in
    let n = headed a.f (length a.extras.now) (length a.key.now) (length a.value.now) c.in_ok-h.h (sym c.header_for.ensures ∙ made) in
    let s = c.in_ok-status.ensures ∙ ap (λ (h : Header). status h a.extras.now a.value.now) n.header in
    let e = ends _ _ _ c.layout_of-end.ensures n.header in
    let w =
    wrote a.f a.extras.now a.key.now a.value.now (length a.out.now) fit n.narrow n.short (sym s) (omega (arith, e, c.if-out-end.false)) in (
      ap Wrote e ∙ sym w,
      c.put_frame.ensures
          ∙ ap (λ (h : Header). written a.out.now 0 (header_bytes h ++ (a.extras.now ++ (a.key.now ++ a.value.now)))) n.header,
    )
