use Rattle.octets.specs.Parts.{written}
use Rattle.header.specs.Header.{header_bytes}
use Rattle.header.specs.declared.Header.{Header}
use mathlib.Core.Path.{ap, ◌∙◌}
use Rattle.reply.proofs.put_bare.Goals as goal

pub returns : goal.returns
returns c =
    let a = c.args in
    c.put.ensures ∙ ap (λ (h : Header). written a.out.now 0 (header_bytes h)) c.header_with.ensures
