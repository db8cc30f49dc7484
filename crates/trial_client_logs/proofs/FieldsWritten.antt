-- A field's log is written by what its client's events make happen
use Rattle.std.proofs.Common.{◌≡◌, ℕ, Bool, true, false, List, [], ◌∷◌, ◌++◌, Result, Ok, Err, OnOk, OnErr, refl, sym, ap, subst, ◌∙◌}
use Rattle.std.specs.Prelude.{is_err}
use Rattle.wl_proto.specs.declared.event.Event.{Event}
use Rattle.wl_proto.specs.declared.event.Event.TheVariants as events
use Rattle.trial_field.specs.Log.{Batch}
use Rattle.client_side.specs.FieldState.{State, after_event, logged, log_after}
use Rattle.client_side.specs.Happenings.{Happening}
use Rattle.client_side.specs.Client.{Client}
use Rattle.client_side.specs.Client as client
use Rattle.client_side.specs.Events.{field_objects}
use Rattle.client_side.specs.Heard.{happened}
use Rattle.client_side.specs.Heard as heard
use Rattle.trial_client_logs.specs.declared.entry.FieldEntry.{FieldEntry}
use Rattle.trial_client_logs.specs.declared.field_hearing.FieldHearing.{FieldHearing}
use Rattle.trial_client_logs.specs.Logs.{happening_of, field_log}
use Rattle.trial_client_logs.specs.Hearing.{Accepts, Refuses, HearsSome}
use Rattle.trial_client_logs.proofs.LogsWritten.{before, before_both, all_told, WritesEach, IsLogged, hears_all, hears_some}

-- the newest first
pub one_more : (log : List FieldEntry) (entry : FieldEntry) →
    field_log (log ++ entry ∷ []) ≡ happening_of entry ∷ field_log log
one_more [] entry = refl
one_more (first ∷ log) entry = ap (λ (l : List Happening). l ++ happening_of first ∷ []) (one_more log entry)

abbrev pub itself : Happening → Happening
itself h = h

logged_is : (event : Event) (waiting : Batch) (log : List Happening) →
    logged event waiting log ≡ before itself (logged event waiting []) log
logged_is (events.Enter surface) waiting log = refl
logged_is (events.Leave surface) waiting log = refl
logged_is (events.TextInputDone serial) waiting log = refl
logged_is _ waiting log = refl

pub is_logged : IsLogged after_event happened log_after itself
is_logged [] s log = refl
is_logged (event ∷ more) s log =
    is_logged more (after_event event s) (logged event s.pending log)
    ∙ ap (before itself (all_told after_event happened more (after_event event s))) (logged_is event s.pending log)
    ∙ sym (before_both itself (happened event s) (all_told after_event happened more (after_event event s)) log)

-- one entry is written, or it isn't
pub pushed : {T E : Type 0} (log new : List FieldEntry) (entry : FieldEntry) (r : Result T E) (lacked lacks : Bool) →
    lacked ≡ false → lacks ≡ is_err r → OnOk r (new ≡ log ++ entry ∷ []) → OnErr r (new ≡ log) →
    (lacks ≡ false → (lacked ≡ false) × (field_log new ≡ happening_of entry ∷ field_log log))
    × (lacks ≡ true → field_log new ≡ field_log log)
pushed log new entry (Ok x) lacked lacks had is ok err = (
  λ e. (had, ap field_log ok ∙ one_more log entry),
  λ e. absurd (let no : true ≡ false = sym e ∙ is in cc),
)
pushed log new entry (Err x) lacked lacks had is ok err =
    (λ e. absurd (let no : false ≡ true = sym e ∙ is in cc), λ e. ap field_log err)

-- a field's client that heard a piece

abbrev pub lacks_of : FieldHearing → Bool
lacks_of h = h.lacks

abbrev pub log_of : FieldHearing → List Happening
log_of h = field_log h.log

abbrev pub Heard : State → State → (bytes rest : List ℕ) → FieldHearing → FieldHearing → Type 0
Heard old new bytes rest a b =
    heard.Hears field_objects after_event happened (WritesEach lacks_of log_of itself) old new bytes rest a b

pub field_heard_some : (old new : Client State) (piece rest : List ℕ) (a b : FieldHearing) (log : List FieldEntry) →
    a.log ≡ log → Heard old.state new.state (old.held ++ piece) rest a b →
    HearsSome field_objects after_event log_after old new (field_log log) (field_log b.log) piece
field_heard_some old new piece rest a b log is h =
    let s = hears_some field_objects after_event happened log_after lacks_of log_of itself old.state new.state
    (old.held ++ piece) rest a b is_logged h in
    subst (λ (l : List FieldEntry). HearsSome field_objects after_event log_after old new (field_log l)
    (field_log b.log) piece) is
    (record { rest = rest; missing = s.missing; written = s.written; keeps = s.keeps; hears = s.hears })

pub field_heard_all : (old new : Client State) (piece : List ℕ) (a b : FieldHearing) (log : List FieldEntry) →
    a.log ≡ log → b.lacks ≡ false → client.Accepts field_objects after_event old new piece →
    Heard old.state new.state (old.held ++ piece) new.held a b →
    Accepts field_objects after_event log_after old new (field_log log) (field_log b.log) piece
field_heard_all old new piece a b log is full ok h =
    let k = hears_all field_objects after_event happened log_after lacks_of log_of itself old.state new.state
    (old.held ++ piece) new.held a b is_logged full h in
    subst (λ (l : List FieldEntry). Accepts field_objects after_event log_after old new (field_log l) (field_log b.log)
    piece) is
    (record { hears = k; partial = ok.partial; good = ok.good })

pub field_heard_wrong : (old new : Client State) (piece : List ℕ) (a b : FieldHearing) (log : List FieldEntry) →
    a.log ≡ log → b.lacks ≡ false → client.Refuses field_objects after_event old new piece →
    heard.HearsWrong field_objects after_event happened (WritesEach lacks_of log_of itself) old.state new.state
    (old.held ++ piece) a b →
    Refuses field_objects after_event log_after old new (field_log log) (field_log b.log) piece
field_heard_wrong old new piece a b log is full bad w =
    let k = hears_all field_objects after_event happened log_after lacks_of log_of itself old.state new.state
    (old.held ++ piece) w.rest a b is_logged full w.heard in
    subst (λ (l : List FieldEntry). Refuses field_objects after_event log_after old new (field_log l) (field_log b.log)
    piece) is
    (record { rest = w.rest; hears = k; wrong = w.wrong; held = bad.held; bad = bad.bad })
