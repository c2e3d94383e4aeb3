-- For the code alone: a reply that is written only where it is sure to fit, and the header of a bare one. Under the bounds, which serving keeps,
-- it is the reply of serving/specs/Reply.antt (proofs/Replies.antt).
use Rattle.std.specs.Prelude.{ℕ, Bool, cond, ◌||◌, List, [], length, ltb}
use Rattle.header.specs.declared.Header.{Header}
use Rattle.decision.specs.Decision.{Decision}
use Rattle.serving.specs.Reply.{header_with, reply_bytes}

-- a room under 1,302 bytes, a key over 250 or a value over 1,024
abbrev pub unfit : ℕ → List ℕ → List ℕ → Bool
unfit room key old = (ltb room 1302 || ltb 250 (length key)) || ltb 1024 (length old)

unfoldable pub fitting_reply : ℕ → ℕ → ℕ → Decision → List ℕ → List ℕ → List ℕ
fitting_reply room op opaque x key old = cond (unfit room key old) [] (reply_bytes op opaque x key old)

-- "Its reply is a bare header with that status, the opcode and opaque echoed, CAS 0."
abbrev pub bare_header : ℕ → ℕ → ℕ → Header
bare_header op opaque status = header_with op opaque status 0 0 0 (record { 0 = 0 })
