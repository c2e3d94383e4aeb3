-- The decision on a request: the status of its command, and what it does where that is 0.
use Rattle.std.specs.Prelude.{ℕ, Bool, cond, ◌&&◌, eqb}
use Rattle.commands.specs.declared.Context.{Context}
use Rattle.commands.specs.declared.Instruction.{Instruction}
use Rattle.effects.specs.declared.Reply.TheVariants.{Bare}
use Rattle.effects.specs.declared.Done.{Done}
use Rattle.outcome.specs.Outcome.{status_of}
use Rattle.decision.specs.declared.Decision.{Decision as Told}
use Rattle.decision.specs.declared.DecisionNumbers.{DecisionNumbers}
use Rattle.commands.specs.Rules.{Rule, rule_of, status_by}
use Rattle.effects.specs.Done.{nothing, done_of}

-- a decision in 01's numbers: its status, whether the frame is silent, and what is done
pub record Decision : Type 0 where
  pub status : ℕ
  pub silent : Bool
  pub done : Done

-- the code's decision in these numbers
abbrev pub decision_told : Told → Decision
decision_told d = record { status = status_of d.status; silent = d.silent; done = d.done }

-- one whose status stands as a number, whatever it is
abbrev pub numbers_told : DecisionNumbers → Decision
numbers_told d = record { status = d.status; silent = d.silent; done = d.done }

-- all of it where the status is 0, else the status alone, "CAS 0": "A non-zero status changes no table byte." The quiet form sends nothing on one status.
abbrev pub with_status : Context → Instruction → ℕ → ℕ → Done → Decision
with_status c i silent_on status done = record {
  status = status;
  silent = i.quiet && eqb status silent_on;
  done = cond (eqb status 0) done (nothing c.head Bare (record { 0 = 0 }));
}

-- the decision on a command with this row that does this
abbrev pub decision_by : Context → Instruction → Rule → Done → Decision
decision_by c i t done = with_status c i t.silent_on (status_by c i t) done

unfoldable pub decision : Context → Instruction → Decision
decision c i = decision_by c i (rule_of c i.command) (done_of c i.command)
