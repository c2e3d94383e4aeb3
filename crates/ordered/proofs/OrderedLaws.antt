-- Rows in key order meet the laws of an engine.
use mathlib.Core.Path.{◌∙◌}
use Rattle.plain.proofs.PlainLaws.{plain-laws}
use Rattle.ordered.specs.Claims.{OrderedLaws}
use Rattle.ordered.proofs.OrderLaws.{ordered-each, ordered-distinct}
use Rattle.ordered.proofs.InsertLaws.{find-insert, free-insert, free-over, length-insert, ordered-insert}
use Rattle.ordered.proofs.PurgeLaws.{purge-found, length-purged, ordered-purge}

-- what is said of the documents alone is the plain engine's
pub ordered-laws : OrderedLaws
ordered-laws = record {
  good-put = λ r k d g room. ordered-insert k d r g;
  find-put = λ r k d g room j. find-insert k d r room j;
  free_new = λ r k d g n f. free-insert k d r n f;
  free-old = λ r k d e g s. free-over k d r e (ordered-each r g) s;
  good-purge = λ r p g. ordered-purge p r g;
  find-purge = λ r p g k. purge-found p r k ∙ plain-laws.find-purge r p (ordered-distinct r g) k;
  find-docs = λ r g k. plain-laws.find-docs r (ordered-distinct r g) k;
  distinct-docs = λ r g. plain-laws.distinct-docs r (ordered-distinct r g);
  count = λ r g. plain-laws.count r (ordered-distinct r g);
  size-put = λ r k d g room. length-insert k d r (ordered-each r g) room;
  size-purge = λ r p g. length-purged p r;
}
