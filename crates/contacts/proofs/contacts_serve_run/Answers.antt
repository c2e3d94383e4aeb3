-- `contacts_serve_run` meets its contract: the run's, by the engine that the truth value chooses, with the tally taken from what it answers.
use Prim.Native.Nat.{ℕ}
use mathlib.Core.Path.{◌≡◌, ap, ◌∙◌}
use mathlib.Core.List.{List}
use Rattle.engine.specs.declared.Config.{Config}
use Rattle.run.specs.Run.{Ran, Stand, begun, run_end, ran_of}
use Rattle.answers.specs.Answers.{ran_answer}
use Rattle.contacts.proofs.contacts_serve_run.Goals as goal

-- the tally that a run answers is the one where it ended
ended : (config : Config) (clock : ℕ) (run : List ℕ) (x : Stand) → (ran_of config clock run x).tally ≡ x.tally
unfolding ran_of
ended config clock run x = λ i. x.tally

pub returns : goal.returns
returns c =
    let a = c.args in
    let e = c.config_for.ensures in
    let w = c.serve_run-r.ensures in
    let end = λ (k : Config). run_end k a.clock a.run.now (begun a.b.now a.out.now a.t.now) in
    let by = w.0 ∙ ap (λ (k : Config). ran_of k a.clock a.run.now (end k)) e in (
      c.ran_answer.ensures ∙ ap ran_answer by,
      (
        w.1.0 ∙ ap (λ (k : Config). (end k).table) e,
        (w.1.1 ∙ ap (λ (k : Config). (end k).reply) e, c.ran_tally.ensures ∙ ap (λ (r : Ran). r.tally) by ∙ ended _ _ _ _),
      ),
    )
