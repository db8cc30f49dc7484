-- Messages that are submitted one after the other
use Rattle.std.proofs.Common.{◌≡◌, ℕ, List, [], ◌∷◌, ◌++◌, length, map, take, refl, sym, ap, ◌∙◌, arith, append_assoc, append-nil, length-append}
use Rattle.std.specs.Prelude.{Ok, Err}
use Rattle.relay_model.specs.declared.act.EndCause.{EndCause}
use Rattle.broker_steps.specs.declared.limits.Limits.{Limits}
use Rattle.wl_wire.specs.Messages.{id_of, opcode_of, messages}
use Rattle.wl_wire.specs.Fronts.{IsFrontMessage}
use Rattle.broker_model.specs.declared.journal.Entry.{Entry}
use Rattle.broker_model.specs.declared.journal.Entry.TheVariants as entries
use Rattle.hub_lock.specs.Passes.{PeerPass}
use Rattle.hub_calls.specs.Made.{entries_by}
use Rattle.hub_calls.specs.declared.stop.PassStop.{PassStop}
use Rattle.hub_calls.specs.declared.stop.PassStop.TheVariants as why
use Rattle.hub_calls.specs.declared.submit.Sent.{Sent}
use Rattle.hub_calls.specs.declared.submit.Sent.TheVariants as sent
use Rattle.hub_calls.specs.Submitted.{message_entry, entries_in, MadeFirst, Submits}

-- the message that bytes begin with is the first of their entries
pub first_entry : (q id opcode : ℕ) (body bytes : List ℕ) (used : ℕ) → IsFrontMessage id opcode body bytes used →
    entries.Message q id opcode body ≡ message_entry q (take used bytes)
first_entry q id opcode body bytes used f =
    let m : List ℕ = take used bytes in
    ap (λ n. entries.Message q n opcode body) f.same_id
    ∙ ap (λ n. entries.Message q (id_of m) n body) f.same_opcode
    ∙ ap (entries.Message q (id_of m) (opcode_of m)) f.same_body

-- what was made so far, and what is left to be made
pub record OnWay (q : ℕ) (all left : List ℕ) (before now : PeerPass) : Type 0 where
  pub made : List Entry
  pub entries : entries_by now.seat ≡ entries_by before.seat ++ made
  pub rest : entries_in q all ≡ made ++ entries_in q left

pub begins : (q : ℕ) (all : List ℕ) (p : PeerPass) → OnWay q all all p p
begins q all p = record { made = []; entries = sym (append-nil (entries_by p.seat)); rest = refl }

-- one more was made
pub goes_on : (q : ℕ) (all left more m : List ℕ) (e : Entry) (before now after : PeerPass) → OnWay q all left before now
    → messages left ≡ m ∷ messages more → e ≡ message_entry q m
    → entries_by after.seat ≡ entries_by now.seat ++ e ∷ [] → OnWay q all more before after
goes_on q all left more m e before now after w is e_is made = record {
  made = w.made ++ e ∷ [];
  entries = made ∙ ap (λ (es : List Entry). es ++ e ∷ []) w.entries
      ∙ append_assoc (entries_by before.seat) w.made (e ∷ []);
  rest = w.rest ∙ ap (λ (ms : List (List ℕ)). w.made ++ map (message_entry q) ms) is
      ∙ ap (λ (x : Entry). w.made ++ (x ∷ entries_in q more)) (sym e_is)
      ∙ sym (append_assoc w.made (e ∷ []) (entries_in q more));
}

-- one wasn't
pub stops : (q : ℕ) (all left more m : List ℕ) (e : Entry) (Why : Entry → Type 0) (before now after : PeerPass)
    → OnWay q all left before now → messages left ≡ m ∷ messages more → e ≡ message_entry q m
    → MadeFirst now after (e ∷ []) Why → MadeFirst before after (entries_in q all) Why
stops q all left more m e Why before now after w is e_is f = record {
  made = w.made ++ f.made;
  next = f.next;
  left = f.left ++ entries_in q more;
  all_are = w.rest ∙ ap (λ (ms : List (List ℕ)). w.made ++ map (message_entry q) ms) is
      ∙ ap (λ (x : Entry). w.made ++ (x ∷ entries_in q more)) (sym e_is)
      ∙ ap (λ (es : List Entry). w.made ++ (es ++ entries_in q more)) f.all_are
      ∙ ap (λ (es : List Entry). w.made ++ es) (append_assoc f.made (f.next ∷ f.left) (entries_in q more))
      ∙ sym (append_assoc w.made f.made (f.next ∷ (f.left ++ entries_in q more)));
  entries = f.entries ∙ ap (λ (es : List Entry). es ++ f.made) w.entries
      ∙ append_assoc (entries_by before.seat) w.made f.made;
  why = f.why;
}

-- all were
pub is_done : (q : ℕ) (all left : List ℕ) (before now : PeerPass) → OnWay q all left before now → messages left ≡ []
    → entries_by now.seat ≡ entries_by before.seat ++ entries_in q all
is_done q all left before now w none =
    w.entries
    ∙ ap (λ (es : List Entry). entries_by before.seat ++ es)
    (sym (w.rest ∙ ap (λ (ms : List (List ℕ)). w.made ++ map (message_entry q) ms) none ∙ append-nil w.made))

-- of one message that wasn't taken nothing was made
nothing : (made left : List Entry) (e next : Entry) → e ∷ [] ≡ made ++ next ∷ left → made ≡ []
nothing [] left e next is = refl
nothing (x ∷ made) left e next is =
    absurd (let l = ap length is in let long = length-append made (next ∷ left) in omega (arith, l, long))

pub none_of_one : (before after : PeerPass) (e : Entry) (Why : Entry → Type 0) → MadeFirst before after (e ∷ []) Why →
    entries_by after.seat ≡ entries_by before.seat
none_of_one before after e Why f =
    f.entries ∙ ap (λ (es : List Entry). entries_by before.seat ++ es) (nothing f.made f.left e f.next f.all_are)
    ∙ append-nil (entries_by before.seat)

-- where one message isn't taken, the answer is the same of all
pub stops_at : (limits : Limits) (q : ℕ) (all left more m : List ℕ) (e : Entry) (before now after : PeerPass)
    (stop : PassStop) → OnWay q all left before now → messages left ≡ m ∷ messages more → e ≡ message_entry q m
    → Submits limits now after (e ∷ []) (Err stop) → Submits limits before after (entries_in q all) (Err stop)
stops_at limits q all left more m e before now after (why.JournalFull kept) w is e_is f =
    stops q all left more m e _ before now after w is e_is f
stops_at limits q all left more m e before now after why.NoMemory w is e_is f =
    stops q all left more m e _ before now after w is e_is f

pub ends_at : (limits : Limits) (q : ℕ) (all left more m : List ℕ) (e : Entry) (before now after : PeerPass)
    (answer : Sent) (cause : EndCause) → answer ≡ sent.Ended cause → OnWay q all left before now
    → messages left ≡ m ∷ messages more → e ≡ message_entry q m → Submits limits now after (e ∷ []) (Ok answer)
    → Submits limits before after (entries_in q all) (Ok answer)
ends_at limits q all left more m e before now after sent.All cause ended w is e_is f = absurd (cc)
ends_at limits q all left more m e before now after (sent.Ended c) cause ended w is e_is f =
    stops q all left more m e _ before now after w is e_is f

-- nothing was made of one message that stopped, or at which the peer had ended
pub idle_at : (limits : Limits) (before after : PeerPass) (e : Entry) (stop : PassStop)
    → Submits limits before after (e ∷ []) (Err stop) → entries_by after.seat ≡ entries_by before.seat
idle_at limits before after e (why.JournalFull kept) f = none_of_one before after e _ f
idle_at limits before after e why.NoMemory f = none_of_one before after e _ f

pub idle_ended : (limits : Limits) (before after : PeerPass) (e : Entry) (answer : Sent) (cause : EndCause)
    → answer ≡ sent.Ended cause → Submits limits before after (e ∷ []) (Ok answer)
    → entries_by after.seat ≡ entries_by before.seat
idle_ended limits before after e sent.All cause ended f = absurd (cc)
idle_ended limits before after e (sent.Ended c) cause ended f = none_of_one before after e _ f

pub is_all : (answer : Sent) → ((cause : EndCause) → answer ≡ sent.Ended cause → ⊥) → answer ≡ sent.All
is_all sent.All other = refl
is_all (sent.Ended cause) other = absurd (other cause refl)

-- where the peer hadn't ended, each of the entries was made
pub each_made : (limits : Limits) (before after : PeerPass) (es : List Entry) (s : Sent)
    → ((cause : EndCause) → s ≡ sent.Ended cause → ⊥) → Submits limits before after es (Ok s)
    → entries_by after.seat ≡ entries_by before.seat ++ es
each_made limits before after es sent.All other made = made
each_made limits before after es (sent.Ended cause) other made = absurd (other cause refl)
