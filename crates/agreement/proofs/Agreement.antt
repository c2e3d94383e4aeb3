-- Two engines agree over any list of calls: specs/Agreement.antt.
use mathlib.Core.Path.{◌≡◌, refl, ap}
use mathlib.Core.List.{List, [], ◌∷◌}
use Rattle.engine.specs.declared.Config.{Config}
use Rattle.rows.specs.Table.{table_bytes, fresh}
use Rattle.tally.specs.Counts.{counted_of}
use Rattle.promises.specs.Clock.{TableCall, Serve, Purge, Read, Activate, Given}
use Rattle.agreement.specs.Calls.{AnyCall, Make, Run, One, Owned, run_on, owned_after, Made, RanBy, ServedBy, Shown, Freeing, Activating, any_answer}
use Rattle.agreement.specs.Calls.{owned_after_all, any_answers, GivenAny, AllGivenAny}
use Rattle.agreement.specs.Agreement.{EnginesAgree}
use Rattle.agreement.proofs.Twins.{Twins, twins, same-table, fresh-twin}
use Rattle.agreement.proofs.Frames.{serve-alike}
use Rattle.agreement.proofs.Owning.{read_alike, purge-alike, activate-alike, made_alike}
use Rattle.agreement.proofs.Runs.{run-alike, ran-alike}

-- twin tables in both memories, and one tally
record Alongside (config other : Config) (o p : Owned) : Type 0 where
  tables : Twins config other o.table p.table
  tally : o.tally ≡ p.tally

record CalledAlike (config other : Config) (o p : Owned) (x : AnyCall) : Type 0 where
  answer : any_answer config o x ≡ any_answer other p x
  after : Alongside config other (owned_after config o x) (owned_after other p x)

record AllAlike (config other : Config) (o p : Owned) (xs : List AnyCall) : Type 0 where
  answers : any_answers config o xs ≡ any_answers other p xs
  after : Alongside config other (owned_after_all config o xs) (owned_after_all other p xs)

module _ (config other : Config) where
  module _ (o p : Owned) (a : Alongside config other o p) where
    one : (x : TableCall) → Given x → CalledAlike config other o p (One x)
    one (Serve c) g =
        let s = serve-alike config other o.table p.table a.tables c.clock c.received g.0 g.1 c.reply in
        record {
          answer = λ i. ServedBy (s.answer i) (s.reply i);
          after = record { tables = s.tables; tally = λ i. counted_of (a.tally i) (s.answer i) };
        }
    one (Purge clock bound) g =
        let s = purge-alike config other o.table p.table a.tables clock bound g in
        record { answer = ap Freeing s.answer; after = record { tables = s.tables; tally = a.tally } }
    one (Read clock key) g =
        let s = read_alike config other o.table p.table a.tables clock key in
        record { answer = λ i. Shown (s.document i) (s.value i); after = a }
    one Activate g =
        let s = activate-alike config other o.table p.table a.tables in
        record { answer = ap Activating s.answer; after = record { tables = s.tables; tally = a.tally } }

    called : (x : AnyCall) → GivenAny x → CalledAlike config other o p x
    called (Make n state mode vbucket) g =
        let s = made_alike config other o.table p.table a.tables n state mode vbucket g in
        record { answer = ap Made s.answer; after = record { tables = s.tables; tally = a.tally } }
    called (Run c) g =
        let s = run-alike config other c.clock c.received g.1 g.0 o.table p.table c.reply o.tally p.tally a.tables a.tally in
        let r = ran-alike config other c.clock c.received g.1 g.0 (run_on config o c) (run_on other p c) s in
        record { answer = λ i. RanBy (r i) (s.reply i); after = record { tables = s.tables; tally = s.tally } }
    called (One x) g = one x g

  all_alike : (xs : List AnyCall) (o p : Owned) → Alongside config other o p → AllGivenAny xs → AllAlike config other o p xs
  all_alike [] o p a g = record { answers = refl; after = a }
  all_alike (x ∷ xs) o p a g =
      let s = called o p a x g.0 in
      let r = all_alike xs (owned_after config o x) (owned_after other p x) s.after g.1 in
      record { answers = λ i. s.answer i ∷ r.answers i; after = r.after }

pub engines-agree : EnginesAgree
engines-agree config other rule n state mode vbucket t xs least most s m v g =
    let o : Owned = record { table = table_bytes (fresh n state mode vbucket); tally = t } in
    let w = twins config other (fresh n state mode vbucket) (fresh n state mode vbucket) (fresh-twin config other rule n state mode vbucket least most s m v) in
    let r = all_alike config other xs o o (record { tables = w; tally = refl }) g in
    record {
      answers = r.answers;
      tally = r.after.tally;
      tables = same-table config other (owned_after_all config o xs).table (owned_after_all other o xs).table r.after.tables;
    }
