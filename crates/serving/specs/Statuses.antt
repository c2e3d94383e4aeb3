-- Document 01's "Statuses, first that applies" as one list in its order, for any table, clock, received bytes and header. Its first failure is the status that serving gives (proofs/Statuses.antt).
use Rattle.std.specs.Prelude.{ℕ, not, ◌≡◌, List, [], ◌∷◌, eqb}
use Rattle.shape.specs.Shapes.{shape_of}
use Rattle.header.specs.declared.Header.{Header}
use Rattle.rules.specs.Rules.{form_ok, field_rules_ok}
use Rattle.request.specs.Reading.{bytes_in, extras_span, key_span, value_span}
use Rattle.commands.specs.declared.Tests.{Tests}
use Rattle.commands.specs.Rules.{Check, ◌⇒◌, first_failure, rule_of, tests_of}
use Rattle.decision.specs.Decide.{instruction_of}
use Rattle.engine.specs.declared.Config.{Config}
use Rattle.rows.specs.Table.{Table}
use Rattle.rows.specs.Find.{find_row}
use Rattle.serving.specs.Serve.{context_on, asked_of, decision_on}

-- the tests of the command that a frame asks for, on its key's document in a table
abbrev pub tests_on : Config → Table → ℕ → List ℕ → Header → Tests
tests_on config t clock s h =
    let seen = context_on t clock (find_row t.rows (bytes_in s (key_span h))) in
    tests_of seen (instruction_of (asked_of config s h)) (rule_of seen (asked_of config s h).command)

abbrev pub statuses : Config → Table → ℕ → List ℕ → Header → List Check
statuses config t clock s h =
    let shape = shape_of h.opcode in
    let command = tests_on config t clock s h in
    -- "0x83: opcodes (hexadecimal) 07, 08, 0e, 0f, 10, 17 to 1a."; order 4: "0x83 loses 0e, 0f, 19 and 1a from its list."
    eqb shape.status 0x83 ⇒ 0x83
    -- "0x81: every other opcode not in the next section."
    ∷ eqb shape.status 0x81 ⇒ 0x81
    -- "0x04: datatype not 0; extras + key length over body; wrong extras size; key missing, forbidden or over 250; value missing or forbidden;"
    ∷ not (form_ok shape h) ⇒ 0x04
    -- "any field rule below": those that need the frame alone
    ∷ not (field_rules_ok shape (bytes_in s (extras_span h)) (bytes_in s (value_span h))) ⇒ 0x04
    -- and those that need mode or clock: "option 0x02 missing in last-write-wins or set in revision mode"; "0x04 if that passes 2^32 - 1"
    ∷ command.fault ⇒ 0x04
    -- order 9: "A with-meta request with option 0x01 now gets 0x83, tested right after the 0x04 rules"
    ∷ command.unsupported ⇒ 0x83
    -- "0x03: value over 1,024, extended meta not counted."
    ∷ command.long ⇒ 0x03
    -- "0x07: other vbucket number, or state not active [..]. Noop and Version skip this."; order 9: "Replica and pending tables now take no write"
    ∷ command.elsewhere ⇒ 0x07
    -- order 4, of append and prepend: "not live is 0x05, whatever the header CAS"
    ∷ command.unstored ⇒ 0x05
    -- "0x01, then 0x02, as given below."
    ∷ command.missing ⇒ 0x01
    ∷ command.conflict ⇒ 0x02
    -- order 4: "a joined value over 1,024 is 0x03, tested right after header CAS"
    ∷ command.joined ⇒ 0x03
    -- "0x06."
    ∷ command.number ⇒ 0x06
    -- "0x84: a number that must grow is at 2^64 - 1."
    ∷ command.spent ⇒ 0x84
    -- "0x82: the key has no row and no row is free."
    ∷ command.full ⇒ 0x82
    ∷ []

abbrev pub StatusesInOrder : Type 0
StatusesInOrder = (config : Config) (t : Table) (clock : ℕ) (s : List ℕ) (h : Header) → first_failure (statuses config t clock s h) ≡ (decision_on config t clock s h).status
