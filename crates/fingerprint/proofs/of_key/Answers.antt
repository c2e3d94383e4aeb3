use Rattle.std.proofs.Common.{◌≡◌, ℕ, ◌+◌, ◌-◌, ◌*◌, List, length, take, sym, ap, ◌∙◌, arith}
use Rattle.octets.specs.Words.{word_at}
use Rattle.octets.proofs.Lists.{take_rest}
use Rattle.fingerprint.specs.Fingerprint.{mixed, lane_of, lane_with, folded}
use Rattle.fingerprint.proofs.Mixing.{left, short, middle, first_step, next-step, step-at, last_step}
use lib.Seq.{length-take-le}
use Rattle.fingerprint.proofs.of_key.Goals as goal

pub returns-then-key-le8 : goal.returns-then-key-le8
returns-then-key-le8 c =
    let key = c.args.key.now in
    c.folded.ensures ∙ ap folded c.be64.ensures ∙ sym (short key (omega arith))

pub returns-then-key-lt16 : goal.returns-then-key-lt16
returns-then-key-lt16 c =
    let key = c.args.key.now in
    c.folded-then-key-lt16.ensures ∙ ap folded (c.mix.ensures ∙ (λ i. mixed (c.word.ensures i) (c.word-then-key-lt16.ensures i))) ∙ sym (middle key (omega arith) (omega arith))

pub loop-step-init : goal.loop-step-init
loop-step-init c =
    let key = c.args.key.now in
    let tail = take_rest key (length key - 16) in
    let a = c.of-a.ensures ∙ ap lane_of (c.word-2.ensures ∙ ap (λ (s : List ℕ). word_at s 0) tail) in
    let b = c.of-b.ensures ∙ ap lane_of (c.word-3.ensures ∙ ap (λ (s : List ℕ). word_at s 8) tail) in
    first_step key (omega arith) ∙ sym (λ i. folded (left key 0 (a i) (b i)))

pub loop-step-preserved : goal.loop-step-preserved
loop-step-preserved c =
    let l = c.loop-step in
    let key = c.args.key.now in
    let steps = c.as_chunks.ensures in
    let m : length (take (length key - 1) key) ≡ length key - 1 = length-take-le (length key - 1) key (omega arith) in
    let step = step-at key c.as_chunks.result.0.now steps.front l.step-index c.loop-step-test.true steps.front_len in
    let a = c.with-a.ensures ∙ ap (lane_with l.a) (c.word-in-loop-step.ensures ∙ ap (λ (s : List ℕ). word_at s 0) step) in
    let b = c.with-b.ensures ∙ ap (lane_with l.b) (c.word-in-loop-step-2.ensures ∙ ap (λ (s : List ℕ). word_at s 8) step) in
    let on : l.step-index * 16 + 16 ≡ (l.step-index + 1) * 16 = omega arith in
    l.invariant ∙ ap folded (next-step key (l.step-index * 16) l.a l.b (omega (arith, steps.front_len)) ∙ sym (λ i. left key (sym on i) (a i) (b i)))

pub returns : goal.returns
returns c =
    let l = c.loop-step in
    let key = c.args.key.now in
    let m : length (take (length key - 1) key) ≡ length key - 1 = length-take-le (length key - 1) key (omega arith) in
    c.folded-2.ensures ∙ ap folded c.both.ensures ∙ sym (l.invariant ∙ ap folded (last_step key (l.step-index * 16) l.a l.b (omega (arith, c.as_chunks.ensures.front_len))))
