-- What each step of a trial keeps, the whole trial keeps, wherever it stops.
use Rattle.std.proofs.Common.{◌≡◌, ℕ, zero, suc, ◌+◌, ◌-◌, ◌%◌, ◌^◌, ◌≤◌, Bool, true, false, List, [], ◌∷◌, ◌++◌, length, refl, sym, subst, inl, inr, ◌⊎◌, arith}
use Rattle.std.specs.Prelude.{if◌then◌else◌, nat_le, ◌==◌}
use Rattle.std.proofs.lemmas.List.{length-drop}
use Rattle.relay_model.specs.declared.role.Role.{Role}
use Rattle.relay_model.specs.declared.role.Role.TheVariants.{App, Method}
use Rattle.broker_steps.specs.declared.limits.Limits.{Limits}
use Rattle.broker_steps.specs.declared.step.ShellStep.{ShellStep}
use Rattle.broker_steps.specs.declared.step.ShellStep.TheVariants as shell
use Rattle.wl_wire.specs.Messages.{IsMessage, AreMessages, id_of, body_of, messages}
use Rattle.wl_wire.proofs.MessagesHoweverCut.{longest}
use Rattle.broker_model.specs.declared.journal.Entry.{Entry}
use Rattle.broker_model.specs.declared.journal.Entry.TheVariants as entries
use Rattle.broker_model.specs.Settle.{number_alive, step_of}
use Rattle.broker_model.specs.Limits.{is_full}
use Rattle.broker_model.specs.Stamps.{no_stamp}
use Rattle.broker_core.specs.Broker.{Broker, with_step}
use Rattle.broker_core.specs.Taking.{lives}
use Rattle.broker_core.proofs.ActTextsFit.{IsBodyShort}
use Rattle.trial_field.specs.Log as field
use Rattle.trial_script.specs.declared.action.Action.{Action}
use Rattle.trial_script.specs.declared.action.Action.TheVariants as actions
use Rattle.trial_script.specs.declared.script.Script.{Script}
use Rattle.trial_run.specs.declared.whose.Whose.{Whose}
use Rattle.trial_run.specs.declared.whose.Whose.TheVariants as whose
use Rattle.trial_run.specs.Ran.{Ran, went, halted, ◌>>=◌}
use Rattle.trial_run.specs.Steps.{stepped, joined, message_entry, messages_sent, has_stored, next_bytes}
use Rattle.trial_run.specs.Play.{TrialPlay, new_field, number_of, to_send, is_paused, hears, sent, edits, commits, pauses, text_at}
use Rattle.trial_run.specs.Rounds.{with_broker, sends_waiting, sends, took, one_take, takes, turn, field_turns, round, is_quiet, rounds}
use Rattle.trial_run.specs.Lines.{surface_id, shell_says, pressed, edit_of, batch_of, show_line, acted, line_played, actions_played}
use Rattle.trial_run.specs.Trial.{unplayed, typist_of, method_joined, field_joined, fields_joined, played_with, trial_played}

-- no settling appends such an entry
abbrev pub IsOuter : Entry → Type 0
IsOuter e = step_of e ≡ e ∷ []

-- a message of a peer that isn't longer than one may be, or what the shell says
abbrev pub IsSpoken : Entry → Type 0
IsSpoken (entries.Message q id opcode body) = length body ≤ 4088
IsSpoken (entries.Shell step) = Unit {0}
IsSpoken _ = ⊥

spoken_outer : (e : Entry) → IsSpoken e → IsOuter e
spoken_outer (entries.Message q id opcode body) s = refl
spoken_outer (entries.Shell step) s = refl
spoken_outer _ s = absurd s

spoken_short : (e : Entry) → IsSpoken e → IsBodyShort e
spoken_short (entries.Message q id opcode body) s = s
spoken_short (entries.Shell step) s = tt
spoken_short _ s = absurd s

body_short : (m : List ℕ) → IsMessage m → length (body_of m) ≤ 4088
body_short m is = omega (arith, length-drop 8 m, is.0, is.1)

-- it is one of these
abbrev pub IsAmong : List (List ℕ) → List ℕ → Type 0
IsAmong [] m = ⊥
IsAmong (x ∷ xs) m = (x ≡ m) ⊎ IsAmong xs m

-- the message is one that a client of the trial has to send
pub record IsWaiting (t : TrialPlay) (q id opcode : ℕ) (body : List ℕ) : Type 0 where
  pub who : Whose
  pub number : q ≡ number_of who
  pub message : List ℕ
  pub among : IsAmong (messages (to_send who t)) message
  pub id-is : id ≡ id_of message
  pub body-is : body ≡ body_of message
  pub short : length body ≤ 4088

-- what a client has to send, or what the shell says
abbrev pub Speaks : TrialPlay → Entry → Type 0
Speaks t (entries.Message q id opcode body) = IsWaiting t q id opcode body
Speaks t (entries.Shell step) = Unit {0}
Speaks t _ = ⊥

pub speaks_spoken : (t : TrialPlay) (e : Entry) → Speaks t e → IsSpoken e
speaks_spoken t (entries.Message q id opcode body) s = s.short
speaks_spoken t (entries.Shell step) s = tt
speaks_spoken t _ s = absurd s

-- what the client takes next
abbrev pub take_entry : Whose → TrialPlay → Entry
take_entry who t = entries.Took (number_of who) (length (next_bytes (number_of who) t.broker))

abbrev pub with_entry : Entry → TrialPlay → TrialPlay
with_entry e t = record t { broker = with_step e no_stamp t.broker }

-- what is kept by what peers and shell say, by what clients take and hear, and by what they send
pub record IsKept (P : TrialPlay → Type 0) : Type 0 where
  pub saying : (e : Entry) (t : TrialPlay) → Speaks t e → is_full t.broker.limits t.broker.journal e ≡ false → P t →
      P (with_entry e t)
  pub taking : (who : Whose) (t : TrialPlay) → is_full t.broker.limits t.broker.journal (take_entry who t) ≡ false →
      P t →
      P (hears who (next_bytes (number_of who) t.broker) (with_entry (take_entry who t) t))
  pub sending : (who : Whose) (t : TrialPlay) → P t → P (sent who t)

-- and by joins
pub record IsSeated (P : TrialPlay → Type 0) : Type 0 where
  pub phases : IsKept P
  pub joining : (role : Role) (t : TrialPlay) → is_full t.broker.limits t.broker.journal (entries.Join role) ≡ false →
      P t →
      P (with_entry (entries.Join role) t)
  pub adding : (t : TrialPlay) → P t → P (record t { fields = t.fields ++ new_field ∷ [] })

-- and by what users do and by what is shown
pub record IsPlayed (P : TrialPlay → Type 0) : Type 0 where
  pub seats : IsSeated P
  pub editing : (k : ℕ) (edit : field.Entry) (t : TrialPlay) → P t → P (edits k edit t)
  pub committing : (batch : field.Batch) (t : TrialPlay) → P t → P (commits batch t)
  pub pausing : (k : ℕ) (is_paused : Bool) (t : TrialPlay) → P t → P (pauses k is_paused t)
  pub showing : (lines : List ℕ) (t : TrialPlay) → P t → P (record t { shown = lines })

abbrev pub KeepsAll : (TrialPlay → Type 0) → (TrialPlay → Ran TrialPlay) → Type 0
KeepsAll P next = (t : TrialPlay) → P t → P (next t).now

pub after : (P : TrialPlay → Type 0) (r : Ran TrialPlay) (next : TrialPlay → Ran TrialPlay) → P r.now →
    KeepsAll P next →
    P (r >>= next).now
after P r next h k = by r.is_full
  where
    by : (full : Bool) → P (if full then r else next r.now).now
    by true = h
    by false = k r.now h

module _ (P : TrialPlay → Type 0) (kept : IsKept P) where
  abbrev Keeps : (TrialPlay → Ran TrialPlay) → Type 0
  Keeps next = KeepsAll P next

  -- ---- steps of the shared state

  spoken_keeps : (e : Entry) (t : TrialPlay) → Speaks t e → P t → P (with_broker t (stepped e t.broker)).now
  unfolding stepped
  spoken_keeps e t s h = by (is_full t.broker.limits t.broker.journal e) refl
    where
      by : (full : Bool) → is_full t.broker.limits t.broker.journal e ≡ full →
          P (with_broker t (if full then halted t.broker else went (with_step e no_stamp t.broker))).now
      by true f = h
      by false f = kept.saying e t s f h

  -- one message, and then those that follow
  next_keeps : (who : Whose) (m : List ℕ) (ms : List (List ℕ)) (t : TrialPlay) → IsMessage m →
      IsAmong (messages (to_send who t)) m → P t →
      ((b : Broker) → P (record t { broker = b }) → P (record t {
        broker = (messages_sent (number_of who)
            ms b).now;
      })) →
      P (record t {
        broker = (stepped (message_entry (number_of who) m) t.broker >>= messages_sent (number_of who)
            ms).now;
      })
  next_keeps who m ms t is among h k = by (stepped (message_entry (number_of who) m) t.broker).is_full
    where
      one : P (record t { broker = (stepped (message_entry (number_of who) m) t.broker).now })
      one =
          spoken_keeps (message_entry (number_of who) m) t
          (record {
            who = who;
            number = refl;
            message = m;
            among = among;
            id-is = refl;
            body-is = refl;
            short = body_short m is;
          }) h

      by : (full : Bool) → P (record t {
        broker =
            (if full then stepped (message_entry (number_of who) m) t.broker
            else messages_sent (number_of who) ms (stepped (message_entry (number_of who) m) t.broker).now).now;
      })
      by true = one
      by false = k (stepped (message_entry (number_of who) m) t.broker).now one

  same_waiting : (who : Whose) (t : TrialPlay) (b : Broker) → to_send who (record t { broker = b }) ≡ to_send who t
  same_waiting whose.Method t b = refl
  same_waiting (whose.Field k) t b = refl

  messages_keep : (who : Whose) (ms : List (List ℕ)) (t : TrialPlay) → AreMessages ms →
      ((m : List ℕ) → IsAmong ms m → IsAmong (messages (to_send who t)) m) → P t →
      P (record t { broker = (messages_sent (number_of who) ms t.broker).now })
  unfolding messages_sent
  messages_keep who [] t each all h = h
  messages_keep who (m ∷ ms) t each all h =
      by (lives t.broker.journal (number_of who))
      (next_keeps who m ms t each.0 (all m (inl refl)) h
      (λ b g. messages_keep who ms (record t { broker = b }) each.1
      (λ x i. subst (λ (l : List ℕ). IsAmong (messages l) x) (sym (same_waiting who t b)) (all x (inr i))) g))
    where
      by : (live : Bool) → P (record t {
        broker =
            (stepped (message_entry (number_of who) m) t.broker >>= messages_sent (number_of who) ms).now;
      }) →
          P (record t {
            broker = (if live then stepped (message_entry (number_of who) m) t.broker
                >>= messages_sent (number_of who) ms else went t.broker).now;
          })
      by true k = k
      by false k = h

  -- ---- the phases

  pub sends_keep : (who : Whose) → Keeps (sends who)
  unfolding sends sends_waiting
  sends_keep who t h =
      after P (sends_waiting who t) (λ now. went (sent who now))
      (messages_keep who (messages (to_send who t)) t (longest (to_send who t)).each (λ m i. i) h) (kept.sending who)

  pub one_take_keeps : (who : Whose) → Keeps (one_take who)
  unfolding one_take took stepped
  one_take_keeps who t h = by (is_full t.broker.limits t.broker.journal (take_entry who t)) refl
    where
      by : (full : Bool) → is_full t.broker.limits t.broker.journal (take_entry who t) ≡ full →
          P (with_broker t (if full then halted t.broker else went (with_step (take_entry who t) no_stamp t.broker))
          >>= (λ now. sends who (hears who (next_bytes (number_of who) t.broker) now))).now
      by true f = h
      by false f =
          sends_keep who (hears who (next_bytes (number_of who) t.broker) (with_entry (take_entry who t) t))
          (kept.taking who t f h)

  pub takes_keep : (n : ℕ) (who : Whose) → Keeps (takes n who)
  unfolding takes
  takes_keep zero who t h = h
  takes_keep (suc n) who t h =
      by (has_stored (number_of who) t.broker)
      (after P (one_take who t) (takes n who) (one_take_keeps who t h) (takes_keep n who))
    where
      by : (some : Bool) → P (one_take who t >>= takes n who).now →
          P (if some then one_take who t >>= takes n who else went t).now
      by true k = k
      by false k = h

  pub turn_keeps : (who : Whose) → Keeps (turn who)
  unfolding turn
  turn_keeps who t h = by (is_paused who t)
    where
      by : (paused : Bool) → P (if paused then went t else takes t.most who t).now
      by true = h
      by false = takes_keep t.most who t h

  pub field_turns_keep : (n k : ℕ) → Keeps (field_turns n k)
  unfolding field_turns
  field_turns_keep zero k t h = h
  field_turns_keep (suc n) k t h =
      after P (turn (whose.Field k) t) (field_turns n (k + 1)) (turn_keeps (whose.Field k) t h)
      (field_turns_keep n (k + 1))

  pub round_keeps : Keeps round
  unfolding round
  round_keeps t h =
      after P (turn whose.Method t) (field_turns (length t.fields) 0) (turn_keeps whose.Method t h)
      (field_turns_keep (length t.fields) 0)

  pub rounds_keep : (n : ℕ) → Keeps (rounds n)
  unfolding rounds
  rounds_keep zero t h = h
  rounds_keep (suc n) t h = by (is_quiet t) (after P (round t) (rounds n) (round_keeps t h) (rounds_keep n))
    where
      by : (quiet : Bool) → P (round t >>= rounds n).now → P (if quiet then went t else round t >>= rounds n).now
      by true k = h
      by false k = k

  pub shell_keeps : (says : ShellStep) → Keeps (shell_says says)
  unfolding shell_says
  shell_keeps says t h = spoken_keeps (entries.Shell says) t tt h

  pub pressed_keeps : (time key : ℕ) → Keeps (pressed time key)
  unfolding pressed
  pressed_keeps time key t h =
      after P (shell_says (shell.Key time key 1) t) (shell_says (shell.Key time key 0))
      (shell_keeps (shell.Key time key 1) t h) (shell_keeps (shell.Key time key 0))

-- ---- joins

module _ (P : TrialPlay → Type 0) (seats : IsSeated P) where
  joined_keeps : (role : Role) → KeepsAll P (λ t. with_broker t (joined role t.broker))
  unfolding joined stepped
  joined_keeps role t h =
      by (nat_le 64 (number_alive t.broker.journal)) (is_full t.broker.limits t.broker.journal (entries.Join role)) refl
    where
      by : (many full : Bool) → is_full t.broker.limits t.broker.journal (entries.Join role) ≡ full →
          P (with_broker t (if many then went t.broker
          else (if full then halted t.broker else went (with_step (entries.Join role) no_stamp t.broker)))).now
      by true full f = h
      by false true f = h
      by false false f = seats.joining role t f h

  pub method_keeps : KeepsAll P method_joined
  unfolding method_joined
  method_keeps t h =
      after P (with_broker t (joined Method t.broker)) (sends whose.Method) (joined_keeps Method t h)
      (sends_keep P seats.phases whose.Method)

  pub field_keeps : KeepsAll P field_joined
  unfolding field_joined
  field_keeps t h =
      after P (with_broker t (joined App t.broker))
      (λ now. sends (whose.Field (length t.fields)) (record now { fields = now.fields ++ new_field ∷ [] }))
      (joined_keeps App t h)
      (λ now k. sends_keep P seats.phases (whose.Field (length t.fields))
      (record now { fields = now.fields ++ new_field ∷ [] })
      (seats.adding now k))

  pub fields_keep : (n : ℕ) → KeepsAll P (fields_joined n)
  unfolding fields_joined
  fields_keep zero t h = h
  fields_keep (suc n) t h = after P (field_joined t) (fields_joined n) (field_keeps t h) (fields_keep n)

-- ---- lines

module _ (P : TrialPlay → Type 0) (played : IsPlayed P) where
  pub acted_keeps : (time : ℕ) (action : Action) → KeepsAll P (acted time action)
  unfolding acted
  acted_keeps time (actions.Use f) t h = shell_keeps P played.seats.phases (shell.Focus (f + 1) surface_id) t h
  acted_keeps time actions.Leave t h = shell_keeps P played.seats.phases shell.Unfocus t h
  acted_keeps time (actions.Press key) t h = pressed_keeps P played.seats.phases time key t h
  acted_keeps time (actions.Batch b) t h =
      sends_keep P played.seats.phases whose.Method (commits (batch_of b) t) (played.committing (batch_of b) t h)
  acted_keeps time (actions.Edit f e) t h =
      sends_keep P played.seats.phases (whose.Field (f - 1)) (edits (f - 1) (edit_of e) t)
      (played.editing (f - 1) (edit_of e) t h)
  acted_keeps time (actions.Pause f) t h = played.pausing (f - 1) true t h
  acted_keeps time (actions.Resume f) t h = played.pausing (f - 1) false t h
  acted_keeps time (actions.Show f) t h = played.showing (t.shown ++ show_line f (text_at (f - 1) t)) t h

  pub line_keeps : (time : ℕ) (action : Action) → KeepsAll P (line_played time action)
  unfolding line_played
  line_keeps time action t h =
      after P (acted time action t) (λ now. rounds now.most now) (acted_keeps time action t h)
      (λ now k. rounds_keep P played.seats.phases now.most now k)

  pub actions_keep : (time : ℕ) (all : List Action) → KeepsAll P (actions_played time all)
  unfolding actions_played
  actions_keep time [] t h = h
  actions_keep time (action ∷ more) t h =
      after P (line_played time action t) (actions_played ((time + 1) % 2 ^ 32) more) (line_keeps time action t h)
      (actions_keep ((time + 1) % 2 ^ 32) more)

  pub played_keeps : (fields time : ℕ) (all : List Action) → KeepsAll P (played_with fields time all)
  unfolding played_with
  played_keeps fields time all t h = by (fields == 0)
    where
      by : (none : Bool) → P (if none then went t
          else (method_joined t >>= fields_joined fields) >>= actions_played time all).now
      by true = h
      by false =
          after P (method_joined t >>= fields_joined fields) (actions_played time all)
          (after P (method_joined t) (fields_joined fields) (method_keeps P played.seats t h)
          (fields_keep P played.seats fields))
          (actions_keep time all)

  pub trial_keeps : (limits : Limits) (s : Script) → P (unplayed limits (typist_of s)) → P (trial_played limits s).now
  trial_keeps limits s h = played_keeps s.fields (s.first_line % 2 ^ 32) s.actions (unplayed limits (typist_of s)) h

-- what is said of the shared state alone is kept where its steps keep it
module _ (Q : Broker → Type 0)
    (step : (e : Entry) (b : Broker) → IsOuter e → IsBodyShort e → is_full b.limits b.journal e ≡ false → Q b →
    Q (with_step e no_stamp b)) where
  was_heard : (who : Whose) (piece : List ℕ) (t : TrialPlay) → Q t.broker → Q (hears who piece t).broker
  was_heard whose.Method piece t h = h
  was_heard (whose.Field k) piece t h = h

  was_sent : (who : Whose) (t : TrialPlay) → Q t.broker → Q (sent who t).broker
  was_sent whose.Method t h = h
  was_sent (whose.Field k) t h = h

  pub of_broker : IsPlayed (λ t. Q t.broker)
  of_broker = record {
    seats = record {
      phases = record {
        saying = λ e t s f h. step e t.broker (spoken_outer e (speaks_spoken t e s))
            (spoken_short e (speaks_spoken t e s)) f h;
        taking = λ who t f h. was_heard who (next_bytes (number_of who) t.broker) (with_entry (take_entry who t) t)
            (step (take_entry who t) t.broker refl tt f h);
        sending = was_sent;
      };
      joining = λ role t f h. step (entries.Join role) t.broker refl tt f h;
      adding = λ t h. h;
    };
    editing = λ k edit t h. h;
    committing = λ batch t h. h;
    pausing = λ k is_paused t h. h;
    showing = λ lines t h. h;
  }
