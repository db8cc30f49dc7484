-- A method's log is written by the events of its client
use Rattle.std.proofs.Common.{◌≡◌, ℕ, Bool, true, false, List, [], ◌∷◌, ◌++◌, Result, Ok, Err, OnOk, OnErr, refl, sym, ap, subst, ◌∙◌}
use Rattle.std.specs.Prelude.{is_err}
use Rattle.wl_proto.specs.declared.event.Event.{Event}
use Rattle.trial_script.specs.Typists.{Meanings}
use Rattle.client_side.specs.Client.{Client}
use Rattle.client_side.specs.Client as client
use Rattle.client_side.specs.Events.{method_objects}
use Rattle.client_side.specs.MethodLog.{Happening, came}
use Rattle.client_side.specs.MethodState.{State, after_event}
use Rattle.client_side.specs.Heard as heard
use Rattle.trial_client_logs.specs.declared.method_log.MethodEntry.{MethodEntry}
use Rattle.trial_client_logs.specs.declared.method_hearing.MethodHearing.{MethodHearing}
use Rattle.trial_client_logs.specs.MethodLogs.{happening_of, method_log, settled, log_after}
use Rattle.trial_client_logs.specs.Hearing.{Accepts, Refuses, HearsSome}
use Rattle.trial_client_logs.proofs.LogsWritten.{WritesEach, IsLogged, hears_all, hears_some}

-- the newest first
pub one_more : (log : List MethodEntry) (entry : MethodEntry) →
    method_log (log ++ entry ∷ []) ≡ happening_of entry ∷ method_log log
one_more [] entry = refl
one_more (first ∷ log) entry = ap (λ (l : List Happening). l ++ happening_of first ∷ []) (one_more log entry)

abbrev pub came_settled : Event → Happening
came_settled event = came (settled event)

pub is_logged : {S : Type 0} (means : Meanings S) → IsLogged (after_event means) heard.came log_after came_settled
is_logged means [] s log = refl
is_logged means (event ∷ more) s log = is_logged means more (after_event means event s) (came_settled event ∷ log)

-- one entry is written, or it isn't
pub pushed : {T E : Type 0} (log new : List MethodEntry) (entry : MethodEntry) (r : Result T E) (lacked lacks : Bool) →
    lacked ≡ false → lacks ≡ is_err r → OnOk r (new ≡ log ++ entry ∷ []) → OnErr r (new ≡ log) →
    (lacks ≡ false → (lacked ≡ false) × (method_log new ≡ happening_of entry ∷ method_log log))
    × (lacks ≡ true → method_log new ≡ method_log log)
pushed log new entry (Ok x) lacked lacks had is ok err = (
  λ e. (had, ap method_log ok ∙ one_more log entry),
  λ e. absurd (let no : true ≡ false = sym e ∙ is in cc),
)
pushed log new entry (Err x) lacked lacks had is ok err =
    (λ e. absurd (let no : false ≡ true = sym e ∙ is in cc), λ e. ap method_log err)

-- a method's client that heard a piece

abbrev pub lacks_of : MethodHearing → Bool
lacks_of h = h.lacks

abbrev pub log_of : MethodHearing → List Happening
log_of h = method_log h.log

abbrev pub Heard : {S : Type 0} → Meanings S → State S → State S → (bytes rest : List ℕ) → MethodHearing →
    MethodHearing → Type 0
Heard means old new bytes rest a b =
    heard.Hears method_objects (after_event means) heard.came (WritesEach lacks_of log_of came_settled) old new bytes
    rest a b

pub method_heard_some : {S : Type 0} (means : Meanings S) (old new : Client (State S))
    (piece rest : List ℕ) (a b : MethodHearing) (log : List MethodEntry) →
    a.log ≡ log → Heard means old.state new.state (old.held ++ piece) rest a b →
    HearsSome method_objects (after_event means) log_after old new (method_log log) (method_log b.log) piece
method_heard_some means old new piece rest a b log is h =
    let s = hears_some method_objects (after_event means) heard.came log_after lacks_of log_of came_settled
    old.state new.state (old.held ++ piece) rest a b (is_logged means) h in
    subst (λ (l : List MethodEntry). HearsSome method_objects (after_event means) log_after old new
    (method_log l) (method_log b.log) piece) is
    (record { rest = rest; missing = s.missing; written = s.written; keeps = s.keeps; hears = s.hears })

pub method_heard_all : {S : Type 0} (means : Meanings S) (old new : Client (State S))
    (piece : List ℕ) (a b : MethodHearing) (log : List MethodEntry) →
    a.log ≡ log → b.lacks ≡ false → client.Accepts method_objects (after_event means) old new piece →
    Heard means old.state new.state (old.held ++ piece) new.held a b →
    Accepts method_objects (after_event means) log_after old new (method_log log) (method_log b.log) piece
method_heard_all means old new piece a b log is full ok h =
    let k = hears_all method_objects (after_event means) heard.came log_after lacks_of log_of came_settled
    old.state new.state (old.held ++ piece) new.held a b (is_logged means) full h in
    subst (λ (l : List MethodEntry). Accepts method_objects (after_event means) log_after old new
    (method_log l) (method_log b.log) piece) is
    (record { hears = k; partial = ok.partial; good = ok.good })

pub method_heard_wrong : {S : Type 0} (means : Meanings S) (old new : Client (State S))
    (piece : List ℕ) (a b : MethodHearing) (log : List MethodEntry) →
    a.log ≡ log → b.lacks ≡ false → client.Refuses method_objects (after_event means) old new piece →
    heard.HearsWrong method_objects (after_event means) heard.came (WritesEach lacks_of log_of came_settled)
    old.state new.state (old.held ++ piece) a b →
    Refuses method_objects (after_event means) log_after old new (method_log log) (method_log b.log) piece
method_heard_wrong means old new piece a b log is full bad w =
    let k = hears_all method_objects (after_event means) heard.came log_after lacks_of log_of came_settled
    old.state new.state (old.held ++ piece) w.rest a b (is_logged means) full w.heard in
    subst (λ (l : List MethodEntry). Refuses method_objects (after_event means) log_after old new
    (method_log l) (method_log b.log) piece) is
    (record { rest = w.rest; hears = k; wrong = w.wrong; held = bad.held; bad = bad.bad })
