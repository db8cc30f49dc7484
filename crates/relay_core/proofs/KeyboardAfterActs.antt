-- The keyboard after the acts that change it.
use Rattle.std.proofs.Common.{◌≡◌, ℕ, ◌+◌, List, [], ◌∷◌, ◌++◌, length, Bool, true, false, Some, None, ap, refl, sym, subst, ◌∙◌}
use Rattle.std.specs.Prelude.{◌&&◌, ◌||◌, nat_lt, if◌then◌else◌, is_some, is_none}
use Rattle.std.specs.FinMap as map
use Rattle.std.proofs.lemmas.Bool.{true≢false}
use Rattle.relay_model.specs.declared.act.Act.{Act}
use Rattle.relay_model.specs.declared.act.Act.TheVariants as acts
use Rattle.relay_model.specs.declared.act.EndCause.{EndCause}
use Rattle.relay_model.specs.Objects.{is_at}
use Rattle.relay_model.specs.Focus.{peer_at}
use Rattle.relay_model.specs.Activation.{serving}
use Rattle.relay_model.specs.Keys.{standing, is_press, is_down, number_down, is_refused, key_route, Refused}
use Rattle.relay_model.proofs.ActsOrIdle.{IsHistory}
use Rattle.kbd_grab.specs.Keys as board
use Rattle.kbd_grab.specs.Keys.{Call}
use Rattle.kbd_grab.specs.Keys.Call.{Stand, Fall, Key, TellKeymap, TellRepeat, TellMods}
use Rattle.kbd_grab.specs.Keyboard.{Keyboard, StandsFor, turned, turned_at}
use Rattle.kbd_grab.specs.declared.keyboard.Keymap.{Keymap}
use Rattle.kbd_grab.specs.declared.keyboard.Mods.{Mods}
use Rattle.kbd_grab.specs.declared.keyboard.Repeat.{Repeat}
use Rattle.kbd_grab.proofs.KeyTurns.{turned_stands, answer_is}
use Rattle.relay_core.specs.KeyCalls.{key_calls, route_of}
use Rattle.relay_core.specs.Machine.{State, fallen_keys, owner_at, route_in}
use Rattle.relay_core.specs.Stands.{Stands}
use Rattle.relay_core.proofs.LookUpsFind.{owner_at_is}
use Rattle.relay_core.proofs.KeyCalls.{calls_standing, calls_down, calls_number, calls_route, calls_dropped, calls_gone, calls_grabbed}

-- what each call makes of a keyboard that stands for calls

fall_stands : (calls : List Call) (keys : Keyboard) → StandsFor calls keys →
    StandsFor (Fall ∷ calls) (record keys { standing = None })
fall_stands calls keys h =
    record {
      grab = refl;
      keys = h.keys;
      number = h.number;
      last_keymap = h.last_keymap;
      last_repeat = h.last_repeat;
      last_mods = h.last_mods;
    }

stand_stands : (calls : List Call) (keys : Keyboard) (g : ℕ) → StandsFor calls keys →
    StandsFor (Stand g ∷ calls) (record keys { standing = Some g })
stand_stands calls keys g h =
    record {
      grab = refl;
      keys = h.keys;
      number = h.number;
      last_keymap = h.last_keymap;
      last_repeat = h.last_repeat;
      last_mods = h.last_mods;
    }

pub keymap_stands : (calls : List Call) (keys : Keyboard) (k : Keymap) → StandsFor calls keys →
    StandsFor (TellKeymap k ∷ calls) (record keys { keymap = Some k })
keymap_stands calls keys k h =
    record {
      grab = h.grab;
      keys = h.keys;
      number = h.number;
      last_keymap = refl;
      last_repeat = h.last_repeat;
      last_mods = h.last_mods;
    }

pub repeat_stands : (calls : List Call) (keys : Keyboard) (repeat : Repeat) → StandsFor calls keys →
    StandsFor (TellRepeat repeat ∷ calls) (record keys { repeat = Some repeat })
repeat_stands calls keys repeat h =
    record {
      grab = h.grab;
      keys = h.keys;
      number = h.number;
      last_keymap = h.last_keymap;
      last_repeat = refl;
      last_mods = h.last_mods;
    }

pub mods_stands : (calls : List Call) (keys : Keyboard) (m : Mods) → StandsFor calls keys →
    StandsFor (TellMods m ∷ calls) (record keys { mods = Some m })
mods_stands calls keys m h =
    record {
      grab = h.grab;
      keys = h.keys;
      number = h.number;
      last_keymap = h.last_keymap;
      last_repeat = h.last_repeat;
      last_mods = refl;
    }

-- the grab that stands is that of the definitions
pub standing_is : (s : State) (log : List Act) → Stands s log → s.keys.standing ≡ standing log
standing_is s log h = h.keys_now.grab ∙ calls_standing log

fallen_by : (b : Bool) (calls : List Call) (keys : Keyboard) → StandsFor calls keys →
    StandsFor ((if b then Fall ∷ [] else []) ++ calls) (if b then record keys { standing = None } else keys)
fallen_by true calls keys h = fall_stands calls keys h
fallen_by false calls keys h = h

fallen_stands : (act : Act) (log : List Act) (keys : Keyboard) (a b : Bool) → StandsFor (key_calls log) keys →
    (is_some keys.standing && a) ≡ b →
    key_calls (act ∷ log) ≡ (if b then Fall ∷ [] else []) ++ key_calls log →
    StandsFor (key_calls (act ∷ log)) (fallen_keys a keys)
fallen_stands act log keys a b h e c =
    subst (λ calls. StandsFor calls (fallen_keys a keys)) (sym c)
    (subst (λ v. StandsFor ((if b then Fall ∷ [] else []) ++ key_calls log)
    (if v then record keys { standing = None } else keys)) (sym e) (fallen_by b (key_calls log) keys h))

pub keys_dropped : (s : State) (log : List Act) (x : ℕ) → Stands s log →
    StandsFor (key_calls (acts.Drop x ∷ log)) (fallen_keys (is_at s.keys.standing x || is_at s.serving x) s.keys)
keys_dropped s log x h =
    let a : s.keys.standing ≡ standing log = standing_is s log h in
    let b : s.serving ≡ serving log = h.served_now.serving_now in
    let same : (is_some s.keys.standing && (is_at s.keys.standing x || is_at s.serving x))
    ≡ (is_some (standing log) && (is_at (standing log) x || is_at (serving log) x)) = cc in
    fallen_stands (acts.Drop x) log s.keys (is_at s.keys.standing x || is_at s.serving x) _ h.keys_now same
    (calls_dropped x log)

pub keys_gone : (s : State) (log : List Act) (p : ℕ) (cause : EndCause) → Stands s log →
    StandsFor (key_calls (acts.Gone p cause ∷ log)) (fallen_keys (is_at (owner_at s.objects s.keys.standing) p) s.keys)
keys_gone s log p cause h =
    let a : s.keys.standing ≡ standing log = standing_is s log h in
    let b : owner_at s.objects s.keys.standing ≡ peer_at log (standing log) =
    owner_at_is s log s.keys.standing h ∙ ap (peer_at log) a in
    let same : (is_some s.keys.standing && is_at (owner_at s.objects s.keys.standing) p)
    ≡ (is_some (standing log) && is_at (peer_at log (standing log)) p) = cc in
    fallen_stands (acts.Gone p cause) log s.keys (is_at (owner_at s.objects s.keys.standing) p) _ h.keys_now same
    (calls_gone p cause log)

-- a grab was made

grabbed_by : (b : Bool) (calls : List Call) (keys : Keyboard) (g : ℕ) → StandsFor calls keys →
    StandsFor ((if b then Stand g ∷ [] else []) ++ calls) (if b then record keys { standing = Some g } else keys)
grabbed_by true calls keys g h = stand_stands calls keys g h
grabbed_by false calls keys g h = h

pub keys_grabbed : (log : List Act) (keys : Keyboard) (m : ℕ) (a : Bool) → StandsFor (key_calls log) keys →
    a ≡ (is_none (standing log) && is_at (serving log) m) →
    StandsFor (key_calls (acts.Grab m ∷ log)) (if a then record keys { standing = Some (length log + 1) } else keys)
keys_grabbed log keys m a h e =
    subst (λ calls. StandsFor calls (if a then record keys { standing = Some (length log + 1) } else keys))
    (sym (calls_grabbed m log))
    (subst (λ v. StandsFor ((if v then Stand (length log + 1) ∷ [] else []) ++ key_calls log)
    (if a then record keys { standing = Some (length log + 1) } else keys)) e
    (grabbed_by a (key_calls log) keys (length log + 1) h))

-- keys

pub keys_turned : (log : List Act) (keys : Keyboard) (time key state : ℕ) → StandsFor (key_calls log) keys →
    StandsFor (key_calls (acts.Key time key state ∷ log)) (record keys { down = turned keys key (is_press state) })
keys_turned log keys time key state h = turned_stands (key_calls log) keys key (is_press state) h

-- where the relay lets a key go is where the definitions do
pub route_is : (s : State) (log : List Act) (key state : ℕ) → IsHistory log → Stands s log →
    route_in key state s ≡ route_of (key_route log key state)
route_is s log key state i h =
    answer_is (key_calls log) s.keys key (is_press state) h.keys_now ∙ calls_route log i key state

refused_goes_by : (log : List Act) (key state : ℕ) (a b c : Bool) → is_press state ≡ a → is_down log key ≡ b →
    nat_lt (number_down log) 64 ≡ c →
    is_refused log key state ≡ true → key_route log key state ≡ Refused
refused_goes_by log key state true false false e k l r = rw (k, e, l) refl
refused_goes_by log key state true false true e k l r = absurd (true≢false (sym r ∙ rw (e, k, l) refl))
refused_goes_by log key state true true c e k l r = absurd (true≢false (sym r ∙ rw (e, k) refl))
refused_goes_by log key state false b c e k l r = absurd (true≢false (sym r ∙ rw e refl))

pub refused_goes : (log : List Act) (key state : ℕ) → is_refused log key state ≡ true →
    key_route log key state ≡ Refused
refused_goes log key state r = refused_goes_by log key state _ _ _ refl refl refl r

-- a press that is refused turns nothing
refused_turns_by : (keys : Keyboard) (log : List Act) (key state : ℕ) (a b c : Bool) → IsHistory log →
    StandsFor (key_calls log) keys → is_press state ≡ a →
    is_down log key ≡ b → nat_lt (number_down log) 64 ≡ c → is_refused log key state ≡ true →
    turned keys key (is_press state) ≡ keys.down
refused_turns_by keys log key state true false false i h e k l r =
    let up : map.get keys.down key ≡ None =
    h.keys key ∙ ap (λ b. if b then Some (board.first_went (key_calls log) key) else None) (calls_down log i key ∙ k) in
    let full : nat_lt (map.len keys.down) 64 ≡ false = ap (λ n. nat_lt n 64) (h.number ∙ calls_number log i) ∙ l in
    ap (λ o. turned_at o keys.standing keys.down key (is_press state)) up
    ∙ ap (turned_at None keys.standing keys.down key) e ∙
    ap (λ b. if b then map.insert keys.down key keys.standing else keys.down) full
refused_turns_by keys log key state true false true i h e k l r = absurd (true≢false (sym r ∙ rw (e, k, l) refl))
refused_turns_by keys log key state true true c i h e k l r = absurd (true≢false (sym r ∙ rw (e, k) refl))
refused_turns_by keys log key state false b c i h e k l r = absurd (true≢false (sym r ∙ rw e refl))

pub refused_turns : (keys : Keyboard) (log : List Act) (key state : ℕ) → IsHistory log →
    StandsFor (key_calls log) keys → is_refused log key state ≡ true →
    turned keys key (is_press state) ≡ keys.down
refused_turns keys log key state i h r = refused_turns_by keys log key state _ _ _ i h refl refl refl r
