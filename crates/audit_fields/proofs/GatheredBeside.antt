-- What is gathered stands beside the journal, entry by entry.
use Rattle.std.proofs.Common.{◌≡◌, ℕ, zero, suc, ◌+◌, ◌-◌, ◌<◌, ◌≤◌, Bool, true, false, List, [], ◌∷◌, ◌++◌, length, drop, Some, refl, sym, ap, subst, ◌∙◌, append-nil, arith, length-append, length-drop, ◌⊎◌, inl, inr}
use Rattle.std.specs.Prelude.{if◌then◌else◌}
use Rattle.std.specs.List.{slice_get}
use Rattle.std.proofs.lemmas.List.{drop_all}
use Rattle.std.proofs.lemmas.Option.{slice_get_within}
use Rattle.broker_core.specs.Reached.{Reached}
use Rattle.broker_model.specs.declared.journal.Entry.{Entry}
use Rattle.broker_model.specs.declared.journal.Entry.TheVariants as entries
use Rattle.broker_model.specs.Ids.{Joined, peer_in}
use Rattle.broker_model.specs.Groups.{followed_by, nothing}
use Rattle.broker_model.specs.Out.{Outgoing, act_at, stored, group_at, took_at, fits, before_group, out_for}
use Rattle.broker_model.specs.Resolve.{past_of, resolve}
use Rattle.broker_core.specs.Watched.{Watched, watched, watched_since, told_of}
use Rattle.broker_core.specs.Watched.Watched.{Entered}
use Rattle.broker_core.proofs.NewLabels.{unborn}
use Rattle.broker_core.proofs.DeadPeersToldNothing.{quiet}
use Rattle.broker_core.proofs.WatchedSince.{since_none, since_more}
use Rattle.audit_fields.specs.Comparing.{Follows}
use Rattle.audit_fields.proofs.PiecesHeard.{first_follows}
use Rattle.audit_fields.specs.declared.side.Side.{Side}
use Rattle.audit_fields.specs.Gathering.{Gathering, MayGather, fresh_side, is_gained, gathered}
use Rattle.audit_fields.specs.Going.{IsSide, IsGathered}
use Rattle.audit_fields.proofs.SidesTold.{IsTold}
use Rattle.audit_fields.proofs.EventsGathered.{all_gathered, AreGathered, reached_all, puts_to, all_at, all_length, GotNone, none_put}
use Rattle.audit_fields.proofs.EntriesPut.{put_of, put_more, told_inner, told_put}

-- ---- one item more at the end of a list

at_end : {A : Type 0} → (xs : List A) (x : A) (k : ℕ) (v : A) → slice_get (xs ++ x ∷ []) k ≡ Some v →
    (slice_get xs k ≡ Some v) ⊎ ((k ≡ length xs) × (x ≡ v))
at_end [] x zero v e = inr (refl, cc)
at_end [] x (suc k) v e = cc
at_end (y ∷ xs) x zero v e = inl e
at_end (y ∷ xs) x (suc k) v e = by (at_end xs x k v e)
  where
    by : (slice_get xs k ≡ Some v) ⊎ ((k ≡ length xs) × (x ≡ v)) →
        (slice_get xs k ≡ Some v) ⊎ ((suc k ≡ suc (length xs)) × (x ≡ v))
    by (inl h) = inl h
    by (inr h) = inr (ap suc h.0, h.1)

record IsThere {A : Type 0} (xs : List A) (k : ℕ) : Type 0 where
  item : A
  at : slice_get xs k ≡ Some item

there : {A : Type 0} → (xs : List A) (k : ℕ) → k < length xs → IsThere xs k
there [] k l = absurd (omega (arith, l))
there (x ∷ xs) zero l = record { item = x; at = refl }
there (x ∷ xs) (suc k) l = (let t = there xs k (omega (arith, l)) in record { item = t.item; at = t.at })

-- ---- behind the newest entry itself, before what it tells

record IsEntered (capacity : ℕ) (sent : ℕ → List ℕ) (e : Entry) (older : List Entry) (g : Gathering) : Type 0 where
  number : length g.sides ≡ length (past_of (e ∷ older)).joined
  each : (k : ℕ) (side : Side) (peer : Joined) → slice_get g.sides k ≡ Some side →
      slice_get (past_of (e ∷ older)).joined k ≡ Some peer → IsSide capacity older (sent (suc k)) peer side
  dry : (q : ℕ) (peer : Joined) → peer_in (past_of (e ∷ older)).joined q ≡ Some peer → is_gained q g.gained ≡ false →
      stored (out_for capacity older peer.label) ≡ []
  silent : (k : ℕ) → length (past_of (e ∷ older)).joined ≤ k → sent (suc k) ≡ []

none_out : (capacity : ℕ) (older : List Entry) →
    out_for capacity older (length older + 1) ≡ record { put = nothing; taken = 0; choked = false }
none_out capacity older = unborn quiet capacity older (length older + 1) (omega arith)

join_side : (capacity : ℕ) (sent : List ℕ) (older : List Entry) (role : _) (peer : Joined) (side : Side) → sent ≡ [] →
    record { label = length older + 1; role = role } ≡ peer → fresh_side role ≡ side →
    IsSide capacity older sent peer side
join_side capacity sent older role peer side none same fresh =
    subst (λ (p : Joined). IsSide capacity older sent p side) same
    (subst (λ (s : Side). IsSide capacity older sent (record { label = length older + 1; role = role }) s) fresh
    (record {
      role = refl;
      follows = λ app.
          subst (λ (l : List ℕ). Follows l sent (fresh_side role).streams)
          (sym (ap (λ (o : Outgoing). o.put.bytes) (none_out capacity older)))
          (subst (λ (l : List ℕ). Follows [] l (fresh_side role).streams) (sym none)
          (first_follows (fresh_side role).streams refl refl));
    }))

entered : (capacity : ℕ) (sent : ℕ → List ℕ) (e : Entry) (older : List Entry) (g : Gathering) →
    IsGathered capacity sent older g → IsEntered capacity sent e older
    (gathered (Entered (length older + 1) e (act_at e older) (resolve older)) g)
entered capacity sent (entries.Join role) older g f =
    let joined : List Joined = (past_of older).joined in
    let peer : Joined = record { label = length older + 1; role = role } in
    let longer : length (joined ++ peer ∷ []) ≡ length joined + 1 = length-append joined (peer ∷ []) in
    let more : length (g.sides ++ fresh_side role ∷ []) ≡ length g.sides + 1 =
    length-append g.sides (fresh_side role ∷ []) in
    let same = f.number in
    record {
      number = omega arith;
      each = λ k side p at there.
          join_by k side p (at_end g.sides (fresh_side role) k side at) (at_end joined peer k p there);
      dry = dry_by;
      silent = λ k l. f.silent k (omega arith);
    }
  where
    join_by : (k : ℕ) (side : Side) (p : Joined) →
        (slice_get g.sides k ≡ Some side) ⊎ ((k ≡ length g.sides) × (fresh_side role ≡ side)) →
        (slice_get (past_of older).joined k ≡ Some p)
        ⊎ ((k ≡ length (past_of older).joined) × (record { label = length older + 1; role = role } ≡ p)) →
        IsSide capacity older (sent (suc k)) p side
    join_by k side p (inl a) (inl b) = f.each k side p a b
    join_by k side p (inl a) (inr b) =
        (let within = slice_get_within g.sides k side a in let same = f.number in let here = b.0 in
        absurd (omega arith))
    join_by k side p (inr a) (inl b) =
        (let within = slice_get_within (past_of older).joined k p b in let same = f.number in let here = a.0 in
        absurd (omega arith))
    join_by k side p (inr a) (inr b) =
        (let here = b.0 in join_side capacity (sent (suc k)) older role p side (f.silent k (omega arith)) b.1 a.1)

    dry_at : (q : ℕ) (p : Joined) →
        (slice_get (past_of older).joined q ≡ Some p)
        ⊎ ((q ≡ length (past_of older).joined) × (record { label = length older + 1; role = role } ≡ p)) →
        is_gained (suc q) g.gained ≡ false → stored (out_for capacity older p.label) ≡ []
    dry_at q p (inl at) none = f.dry (suc q) p at none
    dry_at q p (inr at) none =
        ap (λ (x : Joined). stored (out_for capacity older x.label)) (sym at.1)
        ∙ ap stored (none_out capacity older)

    dry_by : (q : ℕ) (p : Joined) →
        peer_in ((past_of older).joined ++ record { label = length older + 1; role = role } ∷ []) q ≡ Some p →
        is_gained q g.gained ≡ false → stored (out_for capacity older p.label) ≡ []
    dry_by zero p at none = cc
    dry_by (suc q) p at none =
        dry_at q p (at_end (past_of older).joined (record { label = length older + 1; role = role }) q p at) none
entered capacity sent _ older g f = record { number = f.number; each = f.each; dry = f.dry; silent = f.silent }

-- ---- what an entry tells

side_told : (capacity : ℕ) (sent : List ℕ) (e : Entry) (older : List Entry) (peer : Joined) (side after : Side)
    (bytes : List ℕ) →
    IsSide capacity older sent peer side → bytes ≡ put_of capacity e older peer.label → IsTold bytes side after →
    IsSide capacity (e ∷ older) sent peer after
side_told capacity sent e older peer side after bytes s put t = record {
  role = t.role ∙ s.role;
  follows = λ app.
      let was = sym t.role ∙ app in
      let all : (out_for capacity older peer.label).put.bytes ++ bytes
      ≡ (out_for capacity (e ∷ older) peer.label).put.bytes =
      ap (λ (l : List ℕ). (out_for capacity older peer.label).put.bytes ++ l) put
      ∙ sym (put_more capacity e older peer.label) in
      subst (λ (l : List ℕ). Follows l sent after.streams) all
      (t.follows was (out_for capacity older peer.label).put.bytes sent (s.follows was));
}

taken_more : (capacity : ℕ) (e : Entry) (older : List Entry) (label : ℕ) →
    (out_for capacity (e ∷ older) label).taken ≡ (out_for capacity older label).taken + took_at e (past_of older) label
taken_more capacity e older label =
    by (fits capacity (group_at e older label) (before_group e older label (out_for capacity older label)))
  where
    out : Outgoing
    out = before_group e older label (out_for capacity older label)

    by : (b : Bool) →
        (if b then record out { put = followed_by out.put (group_at e older label) }
        else record out { choked = true }).taken
        ≡ (out_for capacity older label).taken + took_at e (past_of older) label
    by true = refl
    by false = refl

still_dry : (capacity : ℕ) (e : Entry) (older : List Entry) (label : ℕ) → stored (out_for capacity older label) ≡ [] →
    put_of capacity e older label ≡ [] → stored (out_for capacity (e ∷ older) label) ≡ []
still_dry capacity e older label dry none =
    let out : Outgoing = out_for capacity older label in
    let after : Outgoing = out_for capacity (e ∷ older) label in
    let same : after.put.bytes ≡ out.put.bytes =
    put_more capacity e older label ∙ ap (λ (l : List ℕ). out.put.bytes ++ l) none ∙ append-nil out.put.bytes in
    let long : length out.put.bytes - out.taken ≡ 0 =
    sym (length-drop out.taken out.put.bytes) ∙ ap (λ (l : List ℕ). length l) dry in
    let more = taken_more capacity e older label in
    ap (drop after.taken) same ∙ drop_all after.taken out.put.bytes (omega arith)

dry_after : (capacity q : ℕ) (sent : ℕ → List ℕ) (e : Entry) (older : List Entry) (g : Gathering) (peer : Joined) →
    IsEntered capacity sent e older g → peer_in (past_of (e ∷ older)).joined q ≡ Some peer →
    is_gained q (all_gathered (told_of capacity e older) g).gained ≡ false →
    stored (out_for capacity (e ∷ older) peer.label) ≡ []
dry_after capacity zero sent e older g peer f at none = cc
dry_after capacity (suc k) sent e older g peer f at none =
    let got : GotNone (suc k) (told_of capacity e older) g =
    none_put (told_of capacity e older) (suc k) g (λ z. omega (arith, z)) (told_inner capacity e older) none in
    still_dry capacity e older peer.label (f.dry (suc k) peer at got.before)
    (sym (told_put capacity k e older peer at) ∙ got.nothing)

told_all : (capacity : ℕ) (sent : ℕ → List ℕ) (e : Entry) (older : List Entry) (g h : Gathering) →
    IsEntered capacity sent e older g → h ≡ all_gathered (told_of capacity e older) g →
    IsGathered capacity sent (e ∷ older) h
told_all capacity sent e older g h f is =
    subst (IsGathered capacity sent (e ∷ older)) (sym is) (record {
      number = long;
      each = each_at;
      dry = λ q peer at none. dry_after capacity q sent e older g peer f at none;
      silent = f.silent;
    })
  where
    long : length (all_gathered (told_of capacity e older) g).sides ≡ length (past_of (e ∷ older)).joined
    long = all_length (told_of capacity e older) g (told_inner capacity e older) ∙ f.number

    each_at : (k : ℕ) (side : Side) (peer : Joined) →
        slice_get (all_gathered (told_of capacity e older) g).sides k ≡ Some side →
        slice_get (past_of (e ∷ older)).joined k ≡ Some peer → IsSide capacity (e ∷ older) (sent (suc k)) peer side
    each_at k side peer at is-peer =
        let within = slice_get_within (past_of (e ∷ older)).joined k peer is-peer in
        let same = f.number in
        let was : IsThere g.sides k = there g.sides k (omega arith) in
        let bytes : List ℕ = puts_to (suc k) (told_of capacity e older) in
        let becomes = all_at (told_of capacity e older) k g was.item (told_inner capacity e older) was.at in
        let is-side : becomes.after ≡ side = (let a = sym becomes.at ∙ at in cc) in
        side_told capacity (sent (suc k)) e older peer was.item side bytes (f.each k was.item peer was.at is-peer)
        (told_put capacity k e older peer is-peer) (subst (IsTold bytes was.item) is-side becomes.told)

-- ---- entry by entry

record IsBeside (capacity : ℕ) (sent : ℕ → List ℕ) (journal : List Entry) (g h : Gathering) : Type 0 where
  whole : g.is_short ≡ false
  gathered : IsGathered capacity sent journal h

entry_beside : (capacity : ℕ) (sent : ℕ → List ℕ) (e : Entry) (older : List Entry) (g h : Gathering) →
    (g.is_short ≡ false → IsGathered capacity sent older g) → Reached MayGather g (watched capacity e older) h →
    h.is_short ≡ false →
    IsBeside capacity sent (e ∷ older) g h
entry_beside capacity sent e older g h f r e-whole =
    let all : AreGathered g (watched capacity e older) h = reached_all (watched capacity e older) g h r e-whole in
    record {
      whole = all.whole;
      gathered =
          told_all capacity sent e older (gathered (Entered (length older + 1) e (act_at e older) (resolve older)) g) h
          (entered capacity sent e older g (f all.whole)) all.is;
    }

-- a list of events in two parts
record IsSplit {P E : Type 0} (R : P → E → P → Type 0) (u : P) (xs ys : List E) (w : P) : Type 0 where
  mid : P
  first : Reached R u xs mid
  second : Reached R mid ys w

split : {P E : Type 0} → (R : P → E → P → Type 0) (xs ys : List E) (u w : P) → Reached R u (xs ++ ys) w →
    IsSplit R u xs ys w
split R [] ys u w r = record { mid = u; first = refl; second = r }
split R (x ∷ xs) ys u w r =
    let s = split R xs ys r.0 w r.2 in
    record { mid = s.mid; first = (r.0, r.1, s.first); second = s.second }

since_beside : (capacity : ℕ) (sent : ℕ → List ℕ) (more journal : List Entry) (g h : Gathering) →
    IsGathered capacity sent journal g →
    Reached MayGather g (watched_since capacity (length journal) (more ++ journal)) h →
    h.is_short ≡ false → IsBeside capacity sent (more ++ journal) g h
since_beside capacity sent [] journal g h f r whole =
    let same : h ≡ g =
    subst (λ (events : List Watched). Reached MayGather g events h) (since_none capacity journal) r in
    record {
      whole = ap (λ (x : Gathering). x.is_short) (sym same) ∙ whole;
      gathered = subst (IsGathered capacity sent journal) (sym same) f;
    }
since_beside capacity sent (e ∷ more) journal g h f r whole =
    let long = length-append more journal in
    let k : ℕ = length journal in
    let parts = split MayGather (watched_since capacity k (more ++ journal)) (watched capacity e (more ++ journal)) g h
    (subst (λ (events : List Watched). Reached MayGather g events h)
    (since_more capacity k e (more ++ journal) (omega arith)) r) in
    let last = entry_beside capacity sent e (more ++ journal) parts.mid h
    (λ m. (since_beside capacity sent more journal g parts.mid f parts.first m).gathered) parts.second whole in
    let before = since_beside capacity sent more journal g parts.mid f parts.first last.whole in
    record { whole = before.whole; gathered = last.gathered }

-- all that a line tells is gathered
pub stays_beside : (capacity : ℕ) (sent : ℕ → List ℕ) (more journal after : List Entry) (g h : Gathering) →
    after ≡ more ++ journal → IsGathered capacity sent journal g →
    Reached MayGather g (watched_since capacity (length journal) after) h → h.is_short ≡ false →
    IsGathered capacity sent after h
stays_beside capacity sent more journal after g h is f r whole =
    let told = subst (λ (l : List Entry). Reached MayGather g (watched_since capacity (length journal) l) h) is r in
    subst (λ (l : List Entry). IsGathered capacity sent l h) (sym is)
    (since_beside capacity sent more journal g h f told whole).gathered
