-- Each step of a generated session has a line of form 1.
use Rattle.std.proofs.Common.{◌≡◌, ℕ, zero, suc, ◌+◌, ◌-◌, ◌*◌, ◌%◌, ◌^◌, ◌<◌, ◌≤◌, Bool, true, ◌&&◌, List, [], ◌∷◌, ◌++◌, length, map, take, refl, sym, subst, arith}
use Rattle.std.specs.Prelude.{codes, pos, unwrap_or, nat_lt, nat_le}
use Rattle.std.specs.List.{slice_get, list_all, AllByRecursion}
use Rattle.std.proofs.lemmas.Bool.{and_parts, ltb-true, leb-true}
use Rattle.wl_wire.specs.Spelling.{word_bytes, text_bytes, zeros}
use Rattle.wl_wire.specs.Texts.{IsBytes}
use Rattle.broker_steps.specs.declared.step.Step.{Step}
use Rattle.session_text.specs.SessionGrammar.{HasSessionLine}
use Rattle.session_text.specs.Steps.{message_bytes, step_line}
use Rattle.wl_proto.specs.declared.request.Request.TheVariants as requests
use Rattle.wl_proto.specs.Grammar.{Value, word, signed, text, null, token}
use Rattle.wl_proto.specs.Rows.{Message, request_message}
use Rattle.wl_proto.specs.Spelling.{value_bytes, spelling, message_len}
use Rattle.wl_proto.proofs.WrittenIsWhole.{spelling_length}
use Rattle.broker_model.proofs.EachElement.{each_append}
use Rattle.session_gen.specs.Sending.{sends, set_surrounding_text, commit_string, set_preedit_string}
use Rattle.session_gen.specs.Setup.{Sent, sent_by, app_messages, method_messages, app_steps, method_steps, setup}
use Rattle.session_gen.specs.Rows.{letter, row_of, row_step, peer_of, value_of, drawn}
use Rattle.session_gen.specs.Generated.{step_of, word_after, setup_count}
use Rattle.program_gen.specs.Journals.{put_sum, method_dones, journal_of, step_at}

-- ---- the bytes of a message

abbrev pub IsByte : ℕ → Type 0
IsByte b = b < 256

abbrev pub AreBytes : List ℕ → Type 0
AreBytes bytes = AllByRecursion IsByte bytes

pub bytes_are : (bytes : List ℕ) → AreBytes bytes → IsBytes bytes
bytes_are [] h i = omega arith
bytes_are (x ∷ xs) h zero = h.0
bytes_are (x ∷ xs) h (suc i) = bytes_are xs h.1 i

pub word_is : (n : ℕ) → AreBytes (word_bytes n)
word_is n = (omega arith, (omega arith, (omega arith, (omega arith, tt))))

none_are : (k : ℕ) → AreBytes (take k [])
none_are zero = tt
none_are (suc k) = tt

zeros_are : (k : ℕ) → AreBytes (take k (0 ∷ 0 ∷ 0 ∷ 0 ∷ []))
zeros_are zero = tt
zeros_are (suc zero) = (omega arith, tt)
zeros_are (suc (suc zero)) = (omega arith, (omega arith, tt))
zeros_are (suc (suc (suc zero))) = (omega arith, (omega arith, (omega arith, tt)))
zeros_are (suc (suc (suc (suc k)))) = (omega arith, (omega arith, (omega arith, (omega arith, none_are k))))

text_is : (t : List ℕ) → AreBytes t → AreBytes (text_bytes t)
unfolding text_bytes
text_is t h =
    each_append IsByte (word_bytes (length t + 1) ++ t) (zeros (length t))
    (each_append IsByte (word_bytes (length t + 1)) t (word_is (length t + 1)) h) (zeros_are (4 - length t % 4))

-- a text holds bytes
abbrev IsOfBytes : Value → Type 0
IsOfBytes (text t) = AreBytes t
IsOfBytes _ = Unit {0}

value_is : (v : Value) → IsOfBytes v → AreBytes (value_bytes v)
value_is (word n) h = word_is n
value_is (signed z) h = (omega arith, (omega arith, (omega arith, (omega arith, tt))))
value_is (text t) h = text_is t h
value_is null h = word_is 0
value_is (token n) h = tt

values_are : (vs : List Value) → AllByRecursion IsOfBytes vs → AreBytes (spelling vs)
values_are [] h = tt
values_are (v ∷ vs) h = each_append IsByte (value_bytes v) (spelling vs) (value_is v h.0) (values_are vs h.1)

-- ---- a message that is sent

abbrev HasLine : Step → Type 0
HasLine step = HasSessionLine (step_line step)

abbrev IsSmall : Message → Type 0
IsSmall m = (message_len m ≤ 4096) × AllByRecursion IsOfBytes m.values

sent : (p id : ℕ) (m : Message) → p < 2 ^ 32 → IsSmall m → HasLine (sends p id m)
unfolding sends
sent p id m known small =
    let body : List ℕ = spelling m.values in
    let second : List ℕ = word_bytes (65536 * (8 + length body) + m.opcode) in
    let long = spelling_length m.values in
    let few : message_len m ≤ 4096 = small.0 in
    let bytes : AreBytes (message_bytes id m.opcode body) =
    each_append IsByte (word_bytes id) (second ++ body) (word_is id)
    (each_append IsByte second body (word_is (65536 * (8 + length body) + m.opcode)) (values_are m.values small.1)) in
    (known, (bytes_are (message_bytes id m.opcode body) bytes, omega arith, omega arith))

-- by a test that computes

abbrev value_test : Value → Bool
value_test (text t) = list_all (λ b. nat_lt b 256) t
value_test _ = true

pub bytes_tested : (bytes : List ℕ) → list_all (λ b. nat_lt b 256) bytes ≡ true → AreBytes bytes
bytes_tested [] h = tt
bytes_tested (x ∷ xs) h =
    let (first, rest) = and_parts (nat_lt x 256) (list_all (λ b. nat_lt b 256) xs) h in
    (ltb-true x 256 first, bytes_tested xs rest)

value_tested : (v : Value) → value_test v ≡ true → IsOfBytes v
value_tested (word n) h = tt
value_tested (signed z) h = tt
value_tested (text t) h = bytes_tested t h
value_tested null h = tt
value_tested (token n) h = tt

values_tested : (vs : List Value) → list_all value_test vs ≡ true → AllByRecursion IsOfBytes vs
values_tested [] h = tt
values_tested (v ∷ vs) h =
    let (first, rest) = and_parts (value_test v) (list_all value_test vs) h in
    (value_tested v first, values_tested vs rest)

abbrev message_test : Message → Bool
message_test m = nat_le (message_len m) 4096 && list_all value_test m.values

small : (m : Message) → message_test m ≡ true → IsSmall m
small m h =
    let (few, values) = and_parts (nat_le (message_len m) 4096) (list_all value_test m.values) h in
    (leb-true (message_len m) 4096 few, values_tested m.values values)

-- ---- the set-up

abbrev HaveLines : List Step → Type 0
HaveLines list = AllByRecursion HasLine list

all_sent : (p : ℕ) (all : List Sent) → p < 2 ^ 32 → list_all (λ (s : Sent). message_test s.message) all ≡ true →
    HaveLines (map (sent_by p) all)
all_sent p [] known h = tt
all_sent p (s ∷ rest) known h =
    let (first, others) = and_parts (message_test s.message) (list_all (λ (s : Sent). message_test s.message) rest) h in
    (sent p s.object s.message known (small s.message first), all_sent p rest known others)

of_app : (p : ℕ) → p < 2 ^ 32 → HaveLines (app_steps p)
of_app p known = (tt, all_sent p app_messages known refl)

of_method : (p : ℕ) → p < 2 ^ 32 → HaveLines (method_steps p)
of_method p known = (tt, all_sent p method_messages known refl)

set_up : HaveLines setup
unfolding setup
set_up =
    each_append HasLine (app_steps 1) (app_steps 2 ++ (app_steps 3 ++ (app_steps 4 ++ method_steps 5)))
    (of_app 1 (omega arith))
    (each_append HasLine (app_steps 2) (app_steps 3 ++ (app_steps 4 ++ method_steps 5)) (of_app 2 (omega arith))
    (each_append HasLine (app_steps 3) (app_steps 4 ++ method_steps 5) (of_app 3 (omega arith))
    (each_append HasLine (app_steps 4) (method_steps 5) (of_app 4 (omega arith)) (of_method 5 (omega arith)))))

-- ---- what a word draws, by its lowest digit

letter_small : (v : ℕ) → IsSmall (commit_string (letter v))
letter_small v = (omega arith, ((omega arith, tt), tt))

preedit_small : (v : ℕ) → IsSmall (set_preedit_string (letter v) (pos 0) (pos 1))
preedit_small v = (omega arith, ((omega arith, tt), (tt, (tt, tt))))

of_digit : (k a v d : ℕ) → k < 16 → a < 2 ^ 32 → HasLine (row_step (row_of k) a v d)
unfolding row_of
of_digit zero a v d few known = (known, omega arith)
of_digit (suc zero) a v d few known = tt
of_digit (suc (suc zero)) a v d few known =
    sent a 7 (request_message requests.Enable) known (small (request_message requests.Enable) refl)
of_digit (suc (suc (suc zero))) a v d few known =
    sent a 7 (request_message requests.Enable) known (small (request_message requests.Enable) refl)
of_digit (suc (suc (suc (suc zero)))) a v d few known =
    sent a 7 (request_message requests.TextInputCommit) known (small (request_message requests.TextInputCommit) refl)
of_digit (suc (suc (suc (suc (suc zero))))) a v d few known =
    sent a 7 (request_message requests.TextInputCommit) known (small (request_message requests.TextInputCommit) refl)
of_digit (suc (suc (suc (suc (suc (suc zero)))))) a v d few known =
    sent a 7 (request_message requests.TextInputCommit) known (small (request_message requests.TextInputCommit) refl)
of_digit (suc (suc (suc (suc (suc (suc (suc zero))))))) a v d few known =
    sent a 7 (set_surrounding_text (codes "ab") (pos (v % 3))) known
    (small (set_surrounding_text (codes "ab") (pos (v % 3))) refl)
of_digit (suc (suc (suc (suc (suc (suc (suc (suc zero)))))))) a v d few known =
    sent a 7 (request_message (requests.SetTextChangeCause (v % 2))) known
    (small (request_message (requests.SetTextChangeCause (v % 2))) refl)
of_digit (suc (suc (suc (suc (suc (suc (suc (suc (suc zero))))))))) a v d few known =
    sent 5 5 (commit_string (letter v)) (omega arith) (letter_small v)
of_digit (suc (suc (suc (suc (suc (suc (suc (suc (suc (suc zero)))))))))) a v d few known =
    sent 5 5 (commit_string (letter v)) (omega arith) (letter_small v)
of_digit (suc (suc (suc (suc (suc (suc (suc (suc (suc (suc (suc zero))))))))))) a v d few known =
    sent 5 5 (set_preedit_string (letter v) (pos 0) (pos 1)) (omega arith) (preedit_small v)
of_digit (suc (suc (suc (suc (suc (suc (suc (suc (suc (suc (suc (suc zero)))))))))))) a v d few known =
    sent 5 5 (request_message (requests.DeleteSurroundingText (v % 3) 0)) (omega arith)
    (small (request_message (requests.DeleteSurroundingText (v % 3) 0)) refl)
of_digit (suc (suc (suc (suc (suc (suc (suc (suc (suc (suc (suc (suc (suc zero))))))))))))) a v d few known =
    sent 5 5 (request_message (requests.InputMethodCommit (d - v % 4))) (omega arith)
    (small (request_message (requests.InputMethodCommit (d - v % 4))) refl)
of_digit (suc (suc (suc (suc (suc (suc (suc (suc (suc (suc (suc (suc (suc (suc zero)))))))))))))) a v d few known =
    sent 5 5 (request_message (requests.InputMethodCommit (d - v % 4))) (omega arith)
    (small (request_message (requests.InputMethodCommit (d - v % 4))) refl)
of_digit (suc (suc (suc (suc (suc (suc (suc (suc (suc (suc (suc (suc (suc (suc (suc zero))))))))))))))) a v d few known
    = (omega arith, (omega arith, omega arith))
of_digit (suc (suc (suc (suc (suc (suc (suc (suc (suc (suc (suc (suc (suc (suc (suc (suc k)))))))))))))))) a v d few
    known = absurd (omega arith)

digit_is : (w : ℕ) → row_of w ≡ row_of (w % 16)
unfolding row_of
digit_is w = (let same : w % 16 % 16 ≡ w % 16 = omega arith in rw same refl)

of_word : (w d : ℕ) → HasLine (drawn w d)
unfolding drawn
of_word w d =
    subst (λ row. HasLine (row_step row (peer_of w) (value_of w) d)) (sym (digit_is w))
    (of_digit (w % 16) (peer_of w) (value_of w) d (omega arith) (omega arith))

-- ---- each step

at_place : (list : List Step) (place : ℕ) (other : Step) → HaveLines list → HasLine other →
    HasLine (unwrap_or (slice_get list place) other)
at_place [] place other h k = k
at_place (s ∷ list) zero other h k = h.0
at_place (s ∷ list) (suc place) other h k = at_place list place other h.1 k

step_has : (n made d : ℕ) → HasLine (step_of n made d)
unfolding step_of
step_has n made d =
    at_place setup made (drawn (word_after n (made - setup_count)) d) set_up
    (of_word (word_after n (made - setup_count)) d)

pub has_line : (n made : ℕ) → HasSessionLine (step_line (step_at n made))
unfolding step_at
has_line n made = step_has n made (put_sum method_dones (journal_of n made))
