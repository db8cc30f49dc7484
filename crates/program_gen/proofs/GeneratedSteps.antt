-- Each generated step is one that a line of form 1 can give: a join, a message, something that the shell says, or a
-- take.
use Rattle.std.proofs.Common.{◌≡◌, ℕ, zero, suc, ◌-◌, ◌%◌, ◌^◌, ◌<◌, ◌≤◌, List, [], ◌∷◌, ◌++◌, map, refl, sym, subst, arith}
use Rattle.std.specs.Prelude.{codes, pos, unwrap_or}
use Rattle.std.specs.List.{slice_get, AllByRecursion}
use Rattle.broker_steps.specs.declared.step.Step.{Step}
use Rattle.broker_steps.specs.declared.step.Step.TheVariants as steps
use Rattle.broker_steps.specs.declared.step.PeerStep.TheVariants as peers
use Rattle.broker_steps.specs.Ranges.{IsBody}
use Rattle.wl_proto.specs.declared.request.Request.TheVariants as requests
use Rattle.wl_proto.specs.Grammar.{Value, word, signed, text, null, token}
use Rattle.wl_proto.specs.Rows.{Message, request_message}
use Rattle.wl_proto.specs.Spelling.{value_len, values_len, message_len}
use Rattle.wl_proto.proofs.WrittenIsWhole.{spelling_length}
use Rattle.session_gen.specs.Sending.{sends, set_surrounding_text, commit_string, set_preedit_string}
use Rattle.session_gen.specs.Setup.{Sent, sent_by, app_messages, method_messages, app_steps, method_steps, setup}
use Rattle.session_gen.specs.Rows.{letter, row_of, row_step, peer_of, value_of, drawn}
use Rattle.session_gen.specs.Generated.{step_of, word_after, setup_count}

abbrev pub IsGenerated : Step → Type 0
IsGenerated (steps.Join role) = Unit {0}
IsGenerated (steps.Peer q (peers.Message id opcode body)) = (id < 2 ^ 32) × (opcode < 2 ^ 16) × IsBody body
IsGenerated (steps.Peer q _) = ⊥
IsGenerated (steps.Shell step) = Unit {0}
IsGenerated (steps.Take q n) = Unit {0}

-- a message is as long as its size says, which is a multiple of four

value_aligned : (v : Value) → value_len v % 4 ≡ 0
value_aligned (word n) = refl
value_aligned (signed z) = refl
value_aligned (text t) = omega arith
value_aligned null = refl
value_aligned (token n) = refl

values_aligned : (vs : List Value) → values_len vs % 4 ≡ 0
values_aligned [] = refl
values_aligned (v ∷ vs) = omega (arith, value_aligned v, values_aligned vs)

-- a message that is sent to an object, within the limits of a line
abbrev IsSmall : ℕ → Message → Type 0
IsSmall id m = (id < 2 ^ 32) × (m.opcode < 2 ^ 16) × (message_len m ≤ 4096)

small_sent : (p id : ℕ) (m : Message) → IsSmall id m → IsGenerated (sends p id m)
unfolding sends
small_sent p id m small =
    let long = spelling_length m.values in
    let aligned = values_aligned m.values in
    let few : message_len m ≤ 4096 = small.2 in
    (small.0, small.1, (omega arith, omega arith))

-- the set-up

abbrev AreSmall : List Sent → Type 0
AreSmall sent = AllByRecursion (λ (s : Sent). IsSmall s.object s.message) sent

abbrev AreGenerated : List Step → Type 0
AreGenerated list = AllByRecursion IsGenerated list

all_sent : (p : ℕ) (sent : List Sent) → AreSmall sent → AreGenerated (map (sent_by p) sent)
all_sent p [] h = tt
all_sent p (s ∷ rest) h = (small_sent p s.object s.message h.0, all_sent p rest h.1)

both : (front back : List Step) → AreGenerated front → AreGenerated back → AreGenerated (front ++ back)
both [] back h k = k
both (s ∷ front) back h k = (h.0, both front back h.1 k)

of_app : (p : ℕ) → AreGenerated (app_steps p)
of_app p =
    let small : AreSmall app_messages = (
      (omega arith, omega arith, omega arith),
      (
        (omega arith, omega arith, omega arith),
        (
          (omega arith, omega arith, omega arith),
          (
            (omega arith, omega arith, omega arith),
            ((omega arith, omega arith, omega arith), ((omega arith, omega arith, omega arith), tt)),
          ),
        ),
      ),
    ) in
    (tt, all_sent p app_messages small)

of_method : (p : ℕ) → AreGenerated (method_steps p)
of_method p =
    let small : AreSmall method_messages = (
      (omega arith, omega arith, omega arith),
      (
        (omega arith, omega arith, omega arith),
        ((omega arith, omega arith, omega arith), ((omega arith, omega arith, omega arith), tt)),
      ),
    ) in
    (tt, all_sent p method_messages small)

set_up : AreGenerated setup
unfolding setup
set_up =
    both (app_steps 1) (app_steps 2 ++ (app_steps 3 ++ (app_steps 4 ++ method_steps 5))) (of_app 1)
    (both (app_steps 2) (app_steps 3 ++ (app_steps 4 ++ method_steps 5)) (of_app 2)
    (both (app_steps 3) (app_steps 4 ++ method_steps 5) (of_app 3)
    (both (app_steps 4) (method_steps 5) (of_app 4) (of_method 5))))

-- what a word draws, by its lowest digit

of_digit : (k a v d : ℕ) → k < 16 → IsGenerated (row_step (row_of k) a v d)
unfolding row_of
of_digit zero a v d small = tt
of_digit (suc zero) a v d small = tt
of_digit (suc (suc zero)) a v d small =
    small_sent a 7 (request_message requests.Enable) (omega arith, omega arith, omega arith)
of_digit (suc (suc (suc zero))) a v d small =
    small_sent a 7 (request_message requests.Enable) (omega arith, omega arith, omega arith)
of_digit (suc (suc (suc (suc zero)))) a v d small =
    small_sent a 7 (request_message requests.TextInputCommit) (omega arith, omega arith, omega arith)
of_digit (suc (suc (suc (suc (suc zero))))) a v d small =
    small_sent a 7 (request_message requests.TextInputCommit) (omega arith, omega arith, omega arith)
of_digit (suc (suc (suc (suc (suc (suc zero)))))) a v d small =
    small_sent a 7 (request_message requests.TextInputCommit) (omega arith, omega arith, omega arith)
of_digit (suc (suc (suc (suc (suc (suc (suc zero))))))) a v d small =
    small_sent a 7 (set_surrounding_text (codes "ab") (pos (v % 3))) (omega arith, omega arith, omega arith)
of_digit (suc (suc (suc (suc (suc (suc (suc (suc zero)))))))) a v d small =
    small_sent a 7 (request_message (requests.SetTextChangeCause (v % 2))) (omega arith, omega arith, omega arith)
of_digit (suc (suc (suc (suc (suc (suc (suc (suc (suc zero))))))))) a v d small =
    small_sent 5 5 (commit_string (letter v)) (omega arith, omega arith, omega arith)
of_digit (suc (suc (suc (suc (suc (suc (suc (suc (suc (suc zero)))))))))) a v d small =
    small_sent 5 5 (commit_string (letter v)) (omega arith, omega arith, omega arith)
of_digit (suc (suc (suc (suc (suc (suc (suc (suc (suc (suc (suc zero))))))))))) a v d small =
    small_sent 5 5 (set_preedit_string (letter v) (pos 0) (pos 1)) (omega arith, omega arith, omega arith)
of_digit (suc (suc (suc (suc (suc (suc (suc (suc (suc (suc (suc (suc zero)))))))))))) a v d small =
    small_sent 5 5 (request_message (requests.DeleteSurroundingText (v % 3) 0)) (omega arith, omega arith, omega arith)
of_digit (suc (suc (suc (suc (suc (suc (suc (suc (suc (suc (suc (suc (suc zero))))))))))))) a v d small =
    small_sent 5 5 (request_message (requests.InputMethodCommit (d - v % 4))) (omega arith, omega arith, omega arith)
of_digit (suc (suc (suc (suc (suc (suc (suc (suc (suc (suc (suc (suc (suc (suc zero)))))))))))))) a v d small =
    small_sent 5 5 (request_message (requests.InputMethodCommit (d - v % 4))) (omega arith, omega arith, omega arith)
of_digit (suc (suc (suc (suc (suc (suc (suc (suc (suc (suc (suc (suc (suc (suc (suc zero))))))))))))))) a v d small =
    tt
of_digit (suc (suc (suc (suc (suc (suc (suc (suc (suc (suc (suc (suc (suc (suc (suc (suc k)))))))))))))))) a v d small =
    absurd (omega arith)

digit_is : (w : ℕ) → row_of w ≡ row_of (w % 16)
unfolding row_of
digit_is w = (let same : w % 16 % 16 ≡ w % 16 = omega arith in rw same refl)

of_word : (w d : ℕ) → IsGenerated (drawn w d)
unfolding drawn
of_word w d =
    subst (λ row. IsGenerated (row_step row (peer_of w) (value_of w) d)) (sym (digit_is w))
    (of_digit (w % 16) (peer_of w) (value_of w) d (omega arith))

-- each step

at_place : (list : List Step) (place : ℕ) (other : Step) → AreGenerated list → IsGenerated other →
    IsGenerated (unwrap_or (slice_get list place) other)
at_place [] place other h k = k
at_place (s ∷ list) zero other h k = h.0
at_place (s ∷ list) (suc place) other h k = at_place list place other h.1 k

pub step_sent : (n made d : ℕ) → IsGenerated (step_of n made d)
unfolding step_of
step_sent n made d =
    at_place setup made (drawn (word_after n (made - setup_count)) d) set_up
    (of_word (word_after n (made - setup_count)) d)
