-- What a field's client sends are whole messages, one behind the other
use Rattle.std.proofs.Common.{◌≡◌, ℕ, zero, suc, ◌+◌, ◌-◌, ◌^◌, ◌≤◌, ◌<◌, min, Bool, true, false, List, [], ◌∷◌, ◌++◌, length, drop, map, refl, sym, ap, subst, ◌∙◌, arith, append-nil, append_assoc, length-append}
use Rattle.std.specs.Prelude.{if◌then◌else◌}
use Rattle.std.proofs.lemmas.List.{length-take, map-append, take_at, drop_at}
use Rattle.wl_wire.specs.Messages.{IsGoodSize, IsMessage, size_of, messages, joined, AreMessages}
use Rattle.wl_wire.proofs.SizeInHeader.{size_stays}
use Rattle.wl_wire.proofs.FirstMessages.{whole_tells}
use Rattle.wl_proto.specs.Spelling.{message_len, message_bytes}
use Rattle.wl_proto.proofs.WrittenIsWhole.{written_whole}
use Rattle.trial_field.specs.Characters.{is_boundary}
use Rattle.trial_field.specs.FieldText.{FieldText, whole}
use Rattle.client_side.specs.Messages.{Sent, spelled, field_setup}
use Rattle.client_side.specs.Happenings.{Happening, edited, batch, entered, left}
use Rattle.client_side.specs.Window.{last_boundary, window_begin, window_end, window_of}
use Rattle.client_side.specs.FieldSends.{surrounding, change_sent, enable_sent}
use Rattle.client_side.specs.FieldLog.{Field, sent_for, field_of, sends_of}
use Rattle.client_side.proofs.SpelledInTurn.{spelled-append}
use Rattle.hub_calls.specs.Submitted.{message_entry, entries_in}

-- a request that is short
pub record IsShort (s : Sent) : Type 0 where
  pub object : s.object < 2 ^ 32
  pub opcode : s.message.opcode < 2 ^ 16
  pub size : message_len s.message ≤ 4096

abbrev pub AreShort : List Sent → Type 0
AreShort [] = Unit {0}
AreShort (s ∷ more) = IsShort s × AreShort more

pub short-append : (a b : List Sent) → AreShort a → AreShort b → AreShort (a ++ b)
short-append [] b h k = k
short-append (s ∷ a) b h k = (h.0, short-append a b h.1 k)

abbrev bytes_each : List Sent → List (List ℕ)
bytes_each [] = []
bytes_each (s ∷ more) = message_bytes s.object s.message ∷ bytes_each more

are_messages : (ss : List Sent) → AreShort ss → AreMessages (bytes_each ss)
are_messages [] h = tt
are_messages (s ∷ more) h =
    ((written_whole s.object s.message h.0.object h.0.opcode h.0.size).0, are_messages more h.1)

are_joined : (ss : List Sent) → spelled ss ≡ joined (bytes_each ss)
are_joined [] = refl
are_joined (s ∷ more) = ap (λ (r : List ℕ). message_bytes s.object s.message ++ r) (are_joined more)

-- a message at the front comes first
first_is : (m rest : List ℕ) → IsMessage m → messages (m ++ rest) ≡ m ∷ messages rest
first_is m rest is =
    let least = is.0.0 in
    let whole = is.1 in
    let size : length m ≡ size_of (m ++ rest) = whole ∙ sym (size_stays m rest (omega (arith, least, whole))) in
    let k = whole_tells (m ++ rest) (length m) size (subst IsGoodSize (sym whole) is.0)
    (let long = length-append m rest in omega (arith, long)) in
    k.0
    ∙ ap (λ (x : List ℕ). x ∷ messages (drop (length m) (m ++ rest))) (take_at m rest (length m) refl)
    ∙ ap (λ (r : List ℕ). m ∷ messages r) (drop_at m rest (length m) refl)

found_first : (ms : List (List ℕ)) (rest : List ℕ) → AreMessages ms →
    messages (joined ms ++ rest) ≡ ms ++ messages rest
found_first [] rest each = refl
found_first (m ∷ ms) rest each =
    ap messages (append_assoc m (joined ms) rest) ∙ first_is m (joined ms ++ rest) each.0
    ∙ ap (λ (r : List (List ℕ)). m ∷ r) (found_first ms rest each.1)

messages_first : (ss : List Sent) (rest : List ℕ) → AreShort ss →
    messages (spelled ss ++ rest) ≡ bytes_each ss ++ messages rest
messages_first ss rest h =
    ap (λ (b : List ℕ). messages (b ++ rest)) (are_joined ss) ∙ found_first (bytes_each ss) rest (are_messages ss h)

no_messages : messages [] ≡ []
unfolding messages
no_messages = refl

messages_all : (ss : List Sent) → AreShort ss → messages (spelled ss) ≡ bytes_each ss
messages_all ss h =
    ap messages (sym (append-nil (spelled ss))) ∙ messages_first ss [] h
    ∙ ap (λ (r : List (List ℕ)). bytes_each ss ++ r) no_messages ∙ append-nil (bytes_each ss)

-- the entries of requests and of bytes behind them
pub entries_first : (q : ℕ) (ss : List Sent) (rest : List ℕ) → AreShort ss →
    entries_in q (spelled ss ++ rest) ≡ entries_in q (spelled ss) ++ entries_in q rest
entries_first q ss rest h =
    ap (map (message_entry q)) (messages_first ss rest h) ∙ map-append (message_entry q) (bytes_each ss) (messages rest)
    ∙ ap (λ (r : List (List ℕ)). map (message_entry q) r ++ entries_in q rest) (sym (messages_all ss h))

pub entries_both : (q : ℕ) (a b : List Sent) → AreShort a →
    entries_in q (spelled (a ++ b)) ≡ entries_in q (spelled a) ++ entries_in q (spelled b)
entries_both q a b h = ap (entries_in q) (spelled-append a b) ∙ entries_first q a (spelled b) h

-- ---- what a field sends

last_within : (text : List ℕ) (n : ℕ) → last_boundary text n ≤ n
last_within text zero = omega arith
last_within text (suc n) = by (is_boundary text (suc n)) (last_within text n)
  where
    by : (b : Bool) → last_boundary text n ≤ n → (if b then suc n else last_boundary text n) ≤ suc n
    by true h = omega arith
    by false h = omega arith

end_within : (text : List ℕ) (begin : ℕ) → window_end text begin ≤ begin + 4000
unfolding window_end
end_within text begin = (let l = last_within text (min (begin + 4000) (length text)) in omega arith)

window_short : (t : FieldText) → length (window_of t) ≤ 4000
window_short t =
    let begin : ℕ = window_begin (whole t) (length t.before) in
    let end : ℕ = window_end (whole t) begin in
    let e : end ≤ begin + 4000 = end_within (whole t) begin in
    let l = length-take (end - begin) (drop begin (whole t)) in
    omega arith

surrounding_short : (t : FieldText) → IsShort (surrounding t)
unfolding surrounding
surrounding_short t = (let w = window_short t in record {
  object = omega arith;
  opcode = omega arith;
  size = omega arith;
})

change_short : (cause : ℕ) (t : FieldText) → AreShort (change_sent cause t)
change_short cause t = (
  surrounding_short t,
  (
    record { object = omega arith; opcode = omega arith; size = omega arith },
    (record { object = omega arith; opcode = omega arith; size = omega arith }, tt),
  ),
)

enable_short : (t : FieldText) → AreShort (enable_sent t)
enable_short t = (
  record { object = omega arith; opcode = omega arith; size = omega arith },
  (
    surrounding_short t,
    (
      record { object = omega arith; opcode = omega arith; size = omega arith },
      (
        record { object = omega arith; opcode = omega arith; size = omega arith },
        (record { object = omega arith; opcode = omega arith; size = omega arith }, tt),
      ),
    ),
  ),
)

where_sent : (b : Bool) (ss : List Sent) → AreShort ss → AreShort (if b then ss else [])
where_sent true ss h = h
where_sent false ss h = tt

pub for_short : (h : Happening) (f : Field) → AreShort (sent_for h f)
for_short (edited edit) f = where_sent _ (change_sent 1 _) (change_short 1 _)
for_short (batch edits serial) f = where_sent _ (change_sent 0 _) (change_short 0 _)
for_short entered f = enable_short f.text
for_short left f = tt

-- all that a log sends
pub sends_short : (log : List Happening) → AreShort (sends_of log)
sends_short [] = tt
sends_short (h ∷ older) =
    short-append (sends_of older) (sent_for h (field_of older)) (sends_short older) (for_short h (field_of older))

pub setup_short : AreShort field_setup
setup_short = (
  record { object = omega arith; opcode = omega arith; size = omega arith },
  (
    record { object = omega arith; opcode = omega arith; size = omega arith },
    (
      record { object = omega arith; opcode = omega arith; size = omega arith },
      (
        record { object = omega arith; opcode = omega arith; size = omega arith },
        (
          record { object = omega arith; opcode = omega arith; size = omega arith },
          (record { object = omega arith; opcode = omega arith; size = omega arith }, tt),
        ),
      ),
    ),
  ),
)
