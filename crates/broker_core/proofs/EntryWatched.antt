-- What is watched as an entry is made is what the definitions say of it.
use Rattle.std.proofs.Common.{◌≡◌, ℕ, ◌+◌, List, [], ◌∷◌, ◌++◌, length, map, Bool, true, false, cond, ap, ap₂, refl, sym, subst, ◌∙◌}
use Rattle.std.specs.Prelude.{filter, if◌then◌else◌}
use Rattle.std.specs.List.{AllByRecursion, flat_map}
use Rattle.relay_model.specs.declared.said.Told.{Told}
use Rattle.relay_model.specs.Told.{told}
use Rattle.broker_model.specs.declared.journal.Entry.{Entry}
use Rattle.broker_model.specs.Ids.{Made, log_of}
use Rattle.broker_model.specs.Enough.{made_at}
use Rattle.broker_model.specs.Kept.{kept_of}
use Rattle.broker_model.proofs.EnoughIsTold.{enough_told}
use Rattle.broker_model.proofs.KeptIsEnough.{kept_enough}
use Rattle.broker_core.proofs.KeptTellsAll.{told_live_alike}
use Rattle.broker_model.specs.Resolve.{past_of, resolve}
use Rattle.broker_model.specs.Groups.{Piece, nothing, group_for}
use Rattle.broker_model.specs.Out.{Outgoing, fits, act_at, group_at, before_group, out_for}
use Rattle.broker_model.proofs.StoresAreOut.{spaced_out}
use Rattle.broker_audience.specs.declared.live.Live.{Live}
use Rattle.broker_audience.specs.Gathered.{empty}
use Rattle.broker_audience.specs.Heard.{heard}
use Rattle.broker_audience.specs.Lives.{Numbered, who, cleared, has_heard, has_room}
use Rattle.broker_core.specs.declared.state.State.{State}
use Rattle.broker_core.specs.Stands.{IsReady, IsReadyFor, numbered, is_alive, roster}
use Rattle.broker_core.specs.Watched.{Watched, shown_by, group_put, gathered_put, told_live, out_put, told_of}
use Rattle.broker_core.proofs.DeadPeersToldNothing.{dead_told}
use Rattle.broker_model.proofs.EachElement.{all_then}
use Rattle.broker_core.proofs.GroupRoom.{room_fits, whole}
use Rattle.broker_core.proofs.GatheredGroup.{IsGathered, gathered_all}
use Rattle.broker_core.proofs.PopupNumbers.{number_kept}
use Rattle.broker_core.proofs.RosterAfterEntry.{IsAt, numbered_at}
use Rattle.broker_core.proofs.ShownAmongLive.{same_shown}

-- for a live peer

one_put : (capacity : ℕ) (e : Entry) (older : List Entry) (l : Live) → IsReady capacity e older l →
    gathered_put (length older + 1)
    (has_heard (past_of (e ∷ older)).made (told (act_at e older) (resolve older)) (cleared l))
    ≡ out_put capacity e older (who l)
one_put capacity e older l r =
    by_room (has_room hears) refl
    ∙ ap (λ (b : Bool). (if b then group_put (length older + 1) l.number (group_at e older l.label) else []))
    (room_fits capacity made all before l (spaced_out capacity older l.label) r.holds r.room)
  where
    made : List Made
    made = (past_of (e ∷ older)).made

    all : List Told
    all = told (act_at e older) (resolve older)

    before : Outgoing
    before = before_group e older l.label (out_for capacity older l.label)

    hears : Live
    hears = has_heard made all (cleared l)

    gathered : IsGathered capacity (group_at e older l.label) hears.gathering
    gathered =
        subst (λ (n : ℕ). IsGathered capacity (group_for made l.label all) (heard made l.label all (empty n)))
        (sym r.room)
        (gathered_all made l.label all capacity)

    by_room : (b : Bool) → has_room hears ≡ b →
        (if b then group_put (length older + 1) l.number hears.gathering.group else [])
        ≡ (if b then group_put (length older + 1) l.number (group_at e older l.label) else [])
    by_room true h =
        ap (group_put (length older + 1) l.number) (whole capacity (group_at e older l.label) hears gathered h)
    by_room false h = refl

all_put : (capacity : ℕ) (e : Entry) (older : List Entry) (live : List Live) →
    AllByRecursion (IsReady capacity e older) live →
    flat_map (gathered_put (length older + 1))
    (map (has_heard (past_of (e ∷ older)).made (told (act_at e older) (resolve older))) (map cleared live))
    ≡ flat_map (out_put capacity e older) (map who live)
all_put capacity e older [] r = refl
all_put capacity e older (l ∷ live) r =
    ap₂ (λ (a b : List Watched). a ++ b) (one_put capacity e older l r.0) (all_put capacity e older live r.1)

-- nothing is put for a peer that ended

none_put : (capacity : ℕ) (e : Entry) (older : List Entry) (p : Numbered) → group_at e older p.peer.label ≡ nothing →
    out_put capacity e older p ≡ []
none_put capacity e older p q =
    ap (λ (g : Piece). (if fits capacity g before then group_put (length older + 1) p.number g else [])) q
    ∙ empty_put (fits capacity nothing before)
  where
    before : Outgoing
    before = before_group e older p.peer.label (out_for capacity older p.peer.label)

    empty_put : (b : Bool) → (if b then group_put (length older + 1) p.number nothing else []) ≡ []
    empty_put true = refl
    empty_put false = refl

dead_put : (capacity : ℕ) (e : Entry) (older : List Entry) (p : Numbered) → IsAt (past_of (e ∷ older)).joined p →
    is_alive (log_of (past_of (e ∷ older))) p ≡ false → out_put capacity e older p ≡ []
dead_put capacity e older p at d = none_put capacity e older p (dead_told e older p.number p.peer at d)

-- those who don't pass a test put nothing
filtered_put : (f : Numbered → List Watched) (test : Numbered → Bool) (ps : List Numbered) →
    AllByRecursion (λ p. test p ≡ false → f p ≡ []) ps → flat_map f (filter test ps) ≡ flat_map f ps
filtered_put f test [] h = refl
filtered_put f test (p ∷ ps) h = by_test (test p) refl (filtered_put f test ps h.1)
  where
    by_test : (b : Bool) → test p ≡ b → flat_map f (filter test ps) ≡ flat_map f ps →
        flat_map f (cond b (p ∷ filter test ps) (filter test ps)) ≡ f p ++ flat_map f ps
    by_test true e k = ap (λ (l : List Watched). f p ++ l) k
    by_test false e k = k ∙ ap (λ (l : List Watched). l ++ flat_map f ps) (sym (h.0 e))

-- for all that joined

joined_put : (capacity : ℕ) (e : Entry) (older : List Entry) (live : List Live) →
    AllByRecursion (IsReady capacity e older) live →
    map who live ≡ roster (e ∷ older) →
    flat_map (gathered_put (length older + 1))
    (map (has_heard (past_of (e ∷ older)).made (told (act_at e older) (resolve older))) (map cleared live))
    ≡ flat_map (out_put capacity e older) (numbered 1 (past_of (e ∷ older)).joined)
joined_put capacity e older live r w =
    let joined = (past_of (e ∷ older)).joined in
    all_put capacity e older live r
    ∙ ap (flat_map (out_put capacity e older)) w
    ∙ filtered_put (out_put capacity e older) (is_alive (log_of (past_of (e ∷ older)))) (numbered 1 joined)
    (all_then (IsAt joined) _ (numbered 1 joined) (λ p at d. dead_put capacity e older p at d) (numbered_at joined))

-- who they are stays as nothing is gathered
pub who_cleared : (live : List Live) → map who (map cleared live) ≡ map who live
who_cleared [] = refl
who_cleared (l ∷ live) = ap (λ (ns : List Numbered). who l ∷ ns) (who_cleared live)

-- what the state tells behind the entry is what the definitions say
pub told_is_watched : (e : Entry) (s : State) → IsReadyFor e s →
    told_live (length s.journal.entries + 1) s.audience.directory.made s.audience.live.items
    (told (act_at e s.journal.entries) (resolve s.journal.entries))
    ≡ told_of s.capacity e s.journal.entries
told_is_watched e s r =
    ap (λ (m : List Made). told_live n m live all) r.made
    ∙ told_live_alike n made (made_at e J ++ kept_of J) live all
    (enough_told e J (made_at e J ++ kept_of J) (kept_enough e J)).each
    ∙ ap₂ (λ (a b : List Watched). a ++ b)
    (ap (λ (peers : List Numbered). shown_by n made peers all) r.who
    ∙ sym (same_shown n (act_at e J) (resolve J) made (numbered 1 (past_of (e ∷ J)).joined) (roster (e ∷ J))
    (number_kept (e ∷ J))))
    (joined_put s.capacity e J live r.live r.who)
  where
    J : List Entry
    J = s.journal.entries

    n : ℕ
    n = length s.journal.entries + 1

    live : List Live
    live = s.audience.live.items

    made : List Made
    made = (past_of (e ∷ s.journal.entries)).made

    all : List Told
    all = told (act_at e s.journal.entries) (resolve s.journal.entries)
