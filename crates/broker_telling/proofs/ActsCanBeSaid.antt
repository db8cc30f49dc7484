-- Acts that can be said: all of them, or those alone that edit a batch.
use Rattle.std.proofs.Common.{Bool, true, false, List, [], ◌∷◌}
use Rattle.std.specs.Prelude.{if◌then◌else◌}
use Rattle.std.specs.List.{AllByRecursion}
use Rattle.relay_model.specs.declared.act.Act.{Act}
use Rattle.relay_model.specs.declared.act.Act.TheVariants as acts
use Rattle.relay_model.specs.Idle.{is_live, history}
use Rattle.broker_model.proofs.EachElement.{either_way}
use Rattle.broker_telling.specs.Sayable.{IsWord, IsInt, IsText, HasInts, HasWords, IsKeymap, IsRepeat, IsSayable}

-- it holds where all acts are asked
abbrev pub When : Bool → Type 0 → Type 0
When true A = A
When false A = Unit {0}

pub when : (all : Bool) (A : Type 0) → A → When all A
when true A h = h
when false A h = tt

pub when_then : (all : Bool) (A B : Type 0) → (A → B) → When all A → When all B
when_then true A B f h = f h
when_then false A B f h = tt

-- the act can be said, if all acts are asked or it edits a batch
abbrev pub Says : Bool → Act → Type 0
Says all (acts.MString m text) = IsText text
Says all (acts.MPreedit m text begin end) = IsText text × IsInt begin × IsInt end
Says all (acts.MDelete m before after) = IsWord before × IsWord after
Says all (acts.Surround f text cursor anchor) = When all (IsText text × IsInt cursor × IsInt anchor)
Says all (acts.Cause f cause) = When all (IsWord cause)
Says all (acts.Content f hint purpose) = When all (IsWord hint × IsWord purpose)
Says all (acts.Cursor f rect) = When all (HasInts rect)
Says all (acts.Key time key state) = When all (IsWord time × IsWord key × IsWord state)
Says all (acts.Mods mods) = When all (HasWords mods)
Says all (acts.Keymap keymap) = When all (IsKeymap keymap)
Says all (acts.Repeat repeat) = When all (IsRepeat repeat)
Says all (acts.VKey v time key state) = When all (IsWord time × IsWord key × IsWord state)
Says all (acts.VMods v mods) = When all (HasWords mods)
Says all _ = Unit {0}

pub says_all : (act : Act) → Says true act → IsSayable act
says_all (acts.MString m text) h = h
says_all (acts.MPreedit m text begin end) h = h
says_all (acts.MDelete m before after) h = h
says_all (acts.Surround f text cursor anchor) h = h
says_all (acts.Cause f cause) h = h
says_all (acts.Content f hint purpose) h = h
says_all (acts.Cursor f rect) h = h
says_all (acts.Key time key state) h = h
says_all (acts.Mods mods) h = h
says_all (acts.Keymap keymap) h = h
says_all (acts.Repeat repeat) h = h
says_all (acts.VKey v time key state) h = h
says_all (acts.VMods v mods) h = h
says_all _ h = tt

-- an act that is idle says nothing

pub says_if : (all b : Bool) (act : Act) → Says all act → Says all (if b then act else acts.Idle)
says_if all b act h = either_way (Says all) b act acts.Idle h tt

pub says_history : (all : Bool) (acts : List Act) → AllByRecursion (Says all) acts →
    AllByRecursion (Says all) (history acts)
says_history all [] h = tt
says_history all (act ∷ older) h = (says_if all (is_live act (history older)) act h.0, says_history all older h.1)
