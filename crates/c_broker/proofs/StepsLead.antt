-- Steps that lead on from where steps led.
use Rattle.std.proofs.Common.{◌≡◌, ℕ, List, [], ◌∷◌, ◌++◌, Option, Some, None, Ok, Err, ap, sym, ◌∙◌, append_assoc}
use Rattle.std.specs.Prelude.{Result}
use Rattle.broker_steps.specs.declared.stamp.Stamp.{Stamp}
use Rattle.broker_model.specs.declared.journal.Entry.{Entry}
use Rattle.broker_core.specs.declared.answers.Refused.{Refused}
use Rattle.broker_core.specs.declared.answers.Refused.TheVariants as refused
use Rattle.broker_core.specs.Broker.{Broker, with_step, peer_refusal}
use Rattle.broker_core.specs.Taking.{standing_of}
use Rattle.broker_model.specs.declared.journal.Entry.TheVariants as entries
use Rattle.c_broker.specs.Seated.{token_steps}
use Rattle.c_broker.specs.Steps.{Led, unless_refused, led, Leads, Plays, not_done}

-- one step, by whether it is refused
pub led_one : (q : ℕ) (given : Stamp) (e : Entry) (b : Broker) → peer_refusal b e (standing_of b.journal q) ≡ None →
    Leads q given (e ∷ []) b (with_step e given b)
led_one q given e b h = ap (λ o. unless_refused o b (led q given [] (with_step e given b))) h

pub led_none : (q : ℕ) (given : Stamp) (e : Entry) (b : Broker) (why : Refused) →
    peer_refusal b e (standing_of b.journal q) ≡ Some why →
    led q given (e ∷ []) b ≡ record { broker = b; refused = Some why }
led_none q given e b why h = ap (λ o. unless_refused o b (led q given [] (with_step e given b))) h

-- steps, and then more

on_by : (o : Option Refused) (q : ℕ) (given : Stamp) (ys : List Entry) (b mid : Broker) (next more : Led) →
    (next ≡ record { broker = mid; refused = None } → more ≡ led q given ys mid) →
    unless_refused o b next ≡ record { broker = mid; refused = None } → unless_refused o b more ≡ led q given ys mid
on_by None q given ys b mid next more f h = f h
on_by (Some why) q given ys b mid next more f h =
    let e : Some why ≡ None = ap (λ (l : Led). l.refused) h in let none : ⊥ = cc in absurd none

pub led_on : (q : ℕ) (given : Stamp) (xs ys : List Entry) (b mid : Broker) → Leads q given xs b mid →
    led q given (xs ++ ys) b ≡ led q given ys mid
led_on q given [] ys b mid h = ap (λ (l : Led). led q given ys l.broker) h
led_on q given (x ∷ xs) ys b mid h =
    on_by (peer_refusal b x (standing_of b.journal q)) q given ys b mid (led q given xs (with_step x given b))
    (led q given (xs ++ ys) (with_step x given b)) (led_on q given xs ys (with_step x given b) mid) h

pub plays_on : {T : Type 0} (q : ℕ) (given : Stamp) (xs ys : List Entry) (b mid after : Broker) (r : Result T Refused) →
    Leads q given xs b mid → Plays q given ys mid r after → Plays q given (xs ++ ys) b r after
plays_on q given xs ys b mid after (Ok done) h k = led_on q given xs ys b mid h ∙ k
plays_on q given xs ys b mid after (Err refused.NoMemory) h k =
    (xs ++ k.0, k.1, ap (λ es. xs ++ es) k.2 ∙ sym (append_assoc xs k.0 k.1), led_on q given xs k.0 b mid h ∙ k.3)
plays_on q given xs ys b mid after (Err refused.NoPeer) h k = led_on q given xs ys b mid h ∙ k
plays_on q given xs ys b mid after (Err (refused.Ended cause)) h k = led_on q given xs ys b mid h ∙ k
plays_on q given xs ys b mid after (Err (refused.JournalFull kept)) h k = led_on q given xs ys b mid h ∙ k

-- a step that wasn't taken, before others

none_next : (q : ℕ) (given : Stamp) (after b : Broker) (why : Refused) →
    led q given [] b ≡ record { broker = after; refused = Some why } → ⊥
none_next q given after b why h =
    let e : ◌≡◌ {A = Option Refused} None (Some why) = ap (λ (l : Led). l.refused) h in let none : ⊥ = cc in none

stopped_by : (o : Option Refused) (b after : Broker) (why : Refused) (next more : Led) →
    (next ≡ record { broker = after; refused = Some why } → ⊥) →
    unless_refused o b next ≡ record { broker = after; refused = Some why } →
    unless_refused o b more ≡ record { broker = after; refused = Some why }
stopped_by None b after why next more f h = absurd (f h)
stopped_by (Some other) b after why next more f h = h

pub led_stops : (q : ℕ) (given : Stamp) (e : Entry) (rest : List Entry) (b after : Broker) (why : Refused) →
    led q given (e ∷ []) b ≡ record { broker = after; refused = Some why } →
    led q given (e ∷ rest) b ≡ record { broker = after; refused = Some why }
led_stops q given e rest b after why h =
    stopped_by (peer_refusal b e (standing_of b.journal q)) b after why (led q given [] (with_step e given b))
    (led q given rest (with_step e given b)) (none_next q given after (with_step e given b) why) h

pub plays_stops : (q : ℕ) (given : Stamp) (e : Entry) (rest : List Entry) (b after : Broker) (why : Refused) →
    Plays q given (e ∷ []) b (not_done why) after → Plays q given (e ∷ rest) b (not_done why) after
plays_stops q given e rest b after refused.NoMemory k =
    (k.0, k.1 ++ rest, ap (λ es. es ++ rest) k.2 ∙ append_assoc k.0 k.1 rest, k.3)
plays_stops q given e rest b after refused.NoPeer k = led_stops q given e rest b after refused.NoPeer k
plays_stops q given e rest b after (refused.Ended cause) k = led_stops q given e rest b after (refused.Ended cause) k
plays_stops q given e rest b after (refused.JournalFull kept) k =
    led_stops q given e rest b after (refused.JournalFull kept) k

-- tokens that weren't taken, before other steps
pub tokens_stop : (q : ℕ) (given : Stamp) (tokens : List ℕ) (ys : List Entry) (b after : Broker) (why : Refused) →
    Plays q given (token_steps q tokens) b (not_done why) after →
    Plays q given (token_steps q tokens ++ ys) b (not_done why) after
tokens_stop q given [] ys b after refused.NoMemory k =
    (k.0, k.1 ++ ys, ap (λ es. es ++ ys) k.2 ∙ append_assoc k.0 k.1 ys, k.3)
tokens_stop q given [] ys b after refused.NoPeer k = absurd (none_next q given after b refused.NoPeer k)
tokens_stop q given [] ys b after (refused.Ended cause) k = absurd (none_next q given after b (refused.Ended cause) k)
tokens_stop q given [] ys b after (refused.JournalFull kept) k =
    absurd (none_next q given after b (refused.JournalFull kept) k)
tokens_stop q given (x ∷ tokens) ys b after why k =
    plays_stops q given (entries.Tokens q (x ∷ tokens)) ys b after why k
