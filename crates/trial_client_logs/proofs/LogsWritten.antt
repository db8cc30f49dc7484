-- What a client's events make happen is written down in the log that hears it
use Rattle.std.proofs.Common.{◌≡◌, Bool, true, false, List, [], ◌∷◌, ◌++◌, refl, sym, ap, ◌∙◌, append_assoc, append-nil}
use Rattle.wl_proto.specs.declared.interface.Interface.{Interface}
use Rattle.wl_proto.specs.declared.event.Event.{Event}
use Rattle.client_side.specs.Client.{Step, after_all}
use Rattle.client_side.specs.Heard.{Reached, telling}
use Rattle.client_side.specs.Heard as heard
use Rattle.trial_client_logs.specs.Writing.{Writes}
use Rattle.trial_client_logs.specs.Hearing.{Logging, Hears}

-- what is said of these things before a log, the last of them the newest
abbrev pub before : {E X : Type 0} → (E → X) → List E → List X → List X
before f [] log = log
before f (h ∷ more) log = before f more (f h ∷ log)

pub before_both : {E X : Type 0} (f : E → X) (xs ys : List E) (log : List X) →
    before f (xs ++ ys) log ≡ before f ys (before f xs log)
before_both f [] ys log = refl
before_both f (x ∷ xs) ys log = before_both f xs ys (f x ∷ log)

-- each thing is written down by what is said of it
abbrev pub WritesEach : {H E X : Type 0} → (H → Bool) → (H → List X) → (E → X) → H → E → H → Type 0
WritesEach lacks log f a h b = Writes lacks log a (f h) b

-- what was told is written down, but for the last of it
pub record Written {E X : Type 0} (f : E → X) (told : List E) (log new : List X) : Type 0 where
  pub missing : List X
  pub is : before f told log ≡ missing ++ new
  pub written : List X
  pub keeps : new ≡ written ++ log

longer : {E X : Type 0} (f : E → X) (told : List E) (log : List X) → Written f told log log
longer f [] log = record { missing = []; is = refl; written = []; keeps = refl }
longer f (h ∷ told) log =
    let k = longer f told (f h ∷ log) in record {
      missing = k.missing ++ f h ∷ [];
      is = k.is ∙ sym (append_assoc k.missing (f h ∷ []) log);
      written = [];
      keeps = refl;
    }

lacks_on : {H E X : Type 0} (lacks : H → Bool) (log : H → List X) (f : E → X) (told : List E) (a b : H) →
    lacks a ≡ true → Reached (WritesEach lacks log f) a told b → (lacks b ≡ true) × (log b ≡ log a)
lacks_on lacks log f [] a b e r = (ap lacks r ∙ e, ap log r)
lacks_on lacks log f (h ∷ told) a b e (mid, w, r) = by (lacks mid) refl (λ m. lacks_on lacks log f told mid b m r)
  where
    by : (t : Bool) → lacks mid ≡ t → (lacks mid ≡ true → (lacks b ≡ true) × (log b ≡ log mid))
        → (lacks b ≡ true) × (log b ≡ log a)
    by true m on = let k = on m in (k.0, k.1 ∙ w.1 m)
    by false m on = absurd (let no : true ≡ false = sym e ∙ (w.0 m).0 in cc)

pub all_written : {H E X : Type 0} (lacks : H → Bool) (log : H → List X) (f : E → X) (told : List E) (a b : H) →
    lacks b ≡ false → Reached (WritesEach lacks log f) a told b → before f told (log a) ≡ log b
all_written lacks log f [] a b e r = ap log (sym r)
all_written lacks log f (h ∷ told) a b e (mid, w, r) = by (lacks mid) refl (all_written lacks log f told mid b e r)
  where
    by : (t : Bool) → lacks mid ≡ t → before f told (log mid) ≡ log b → before f told (f h ∷ log a) ≡ log b
    by true m all = absurd (let k = lacks_on lacks log f told mid b m r in let no : true ≡ false = sym k.0 ∙ e in cc)
    by false m all = ap (before f told) (sym (w.0 m).1) ∙ all

pub some_written : {H E X : Type 0} (lacks : H → Bool) (log : H → List X) (f : E → X) (told : List E) (a b : H) →
    Reached (WritesEach lacks log f) a told b → Written f told (log a) (log b)
some_written lacks log f [] a b r = record { missing = []; is = ap log (sym r); written = []; keeps = ap log r }
some_written lacks log f (h ∷ told) a b (mid, w, r) = by (lacks mid) refl (some_written lacks log f told mid b r)
  where
    by : (t : Bool) → lacks mid ≡ t → Written f told (log mid) (log b) → Written f (h ∷ told) (log a) (log b)
    by true m s =
        let k = lacks_on lacks log f told mid b m r in
        let l = longer f (h ∷ told) (log a) in
        let same = k.1 ∙ w.1 m in record {
          missing = l.missing;
          is = l.is ∙ ap (λ (x : List _). l.missing ++ x) (sym same);
          written = [];
          keeps = same;
        }
    by false m s =
        record {
          missing = s.missing;
          is = ap (before f told) (sym (w.0 m).1) ∙ s.is;
          written = s.written ++ f h ∷ [];
          keeps = s.keeps ∙ ap (λ (x : List _). s.written ++ x) (w.0 m).1
              ∙ sym (append_assoc s.written (f h ∷ []) (log a));
        }

-- what events make happen, in order
abbrev pub all_told : {S E : Type 0} → Step S → (Event → S → List E) → List Event → S → List E
all_told step each [] s = []
all_told step each (event ∷ more) s = each event s ++ all_told step each more (step event s)

told_is : {S E : Type 0} (step : Step S) (each : Event → S → List E) (all : List Event) (s : S) (told : List E) →
    after_all (telling step each) all (s, told) ≡ (after_all step all s, told ++ all_told step each all s)
told_is step each [] s told = ap (λ (l : List _). (s, l)) (sym (append-nil told))
told_is step each (event ∷ more) s told =
    told_is step each more (step event s) (told ++ each event s)
    ∙ ap (λ (l : List _). (after_all step more (step event s), l))
    (append_assoc told (each event s) (all_told step each more (step event s)))

-- how the log goes on is what is said of what they make happen
abbrev pub IsLogged : {S E X : Type 0} → Step S → (Event → S → List E) → Logging S X → (E → X) → Type 0
IsLogged {S} {E} {X} step each logging f = (all : List Event) (s : S) (log : List X) →
    logging all s log ≡ before f (all_told step each all s) log

-- a client that heard a piece: its log, where memory never lacked
pub hears_all : {S H E X : Type 0} (objects : List Interface) (step : Step S) (each : Event → S → List E)
    (logging : Logging S X) (lacks : H → Bool) (log : H → List X) (f : E → X) (old new : S) (bytes rest : _) (a b : H) →
    IsLogged step each logging f → lacks b ≡ false →
    heard.Hears objects step each (WritesEach lacks log f) old new bytes rest a b →
    Hears objects step logging old new bytes rest (log a) (log b) []
hears_all {S} {H} {E} {X} objects step each logging lacks log f old new bytes rest a b is e h =
    let t = h.takes in
    let both : (new, h.told) ≡ (after_all step t.events old, all_told step each t.events old) =
    t.state-is ∙ told_is step each t.events old [] in
    let told : h.told ≡ all_told step each t.events old = ap (λ (p : S × List E). p.1) both in
    record {
      messages = t.messages;
      events = t.events;
      are = t.are;
      front = t.front;
      state-is = ap (λ (p : S × List E). p.0) both;
      log-is = is t.events old (log a) ∙ ap (λ (l : List E). before f l (log a)) (sym told)
          ∙ all_written lacks log f h.told a b e h.reached;
    }

-- and whether it lacked or not
pub record SomeHeard {S X : Type 0} (objects : List Interface) (step : Step S) (logging : Logging S X) (old new : S)
    (bytes rest : List _) (log after : List X) : Type 0 where
  pub missing : List X
  pub written : List X
  pub keeps : after ≡ written ++ log
  pub hears : Hears objects step logging old new bytes rest log after missing

pub hears_some : {S H E X : Type 0} (objects : List Interface) (step : Step S) (each : Event → S → List E)
    (logging : Logging S X) (lacks : H → Bool) (log : H → List X) (f : E → X) (old new : S) (bytes rest : _) (a b : H) →
    IsLogged step each logging f → heard.Hears objects step each (WritesEach lacks log f) old new bytes rest a b →
    SomeHeard objects step logging old new bytes rest (log a) (log b)
hears_some {S} {H} {E} {X} objects step each logging lacks log f old new bytes rest a b is h =
    let t = h.takes in
    let both : (new, h.told) ≡ (after_all step t.events old, all_told step each t.events old) =
    t.state-is ∙ told_is step each t.events old [] in
    let told : h.told ≡ all_told step each t.events old = ap (λ (p : S × List E). p.1) both in
    let w = some_written lacks log f h.told a b h.reached in
    record {
      missing = w.missing;
      written = w.written;
      keeps = w.keeps;
      hears = record {
        messages = t.messages;
        events = t.events;
        are = t.are;
        front = t.front;
        state-is = ap (λ (p : S × List E). p.0) both;
        log-is = is t.events old (log a) ∙ ap (λ (l : List E). before f l (log a)) (sym told) ∙ w.is;
      };
    }
