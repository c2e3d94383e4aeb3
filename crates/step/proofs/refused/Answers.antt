use Rattle.header.specs.Header.{header_bytes}
use Rattle.reply.specs.Fitting.{bare_header}
use Prim.Native.Nat.{ℕ}
use mathlib.Core.Path.{ap, ◌∙◌}
use Rattle.octets.specs.Parts.{written}
use Rattle.octets.specs.BigEndian.{bytes_of}
use Rattle.outcome.specs.Outcome.{status_number}
use Rattle.serving.specs.Serve.{Done}
use Rattle.step.proofs.refused.Goals as goal

pub returns : goal.returns
returns c =
    let a = c.args in
    record {
      answer = λ i. Done (status_number a.status) (c.layout_of.ensures i).end 24;
      table = c.put_clock.ensures ∙ ap (λ (n : ℕ). written a.b.now 4 (bytes_of 4 n)) c.later.ensures;
      reply = c.put_bare.ensures ∙ ap (λ (n : ℕ). written a.out.now 0 (header_bytes (bare_header a.h.opcode a.h.opaque n))) c.number.ensures;
    }
