-- What an entry puts for a peer, by what is watched of it.
use Rattle.std.proofs.Common.{◌≡◌, ℕ, zero, suc, ◌+◌, ◌<◌, Bool, true, false, List, [], ◌∷◌, ◌++◌, length, map, Some, refl, sym, ap, ap₂, ◌∙◌, append-nil, arith}
use Rattle.std.specs.Prelude.{if◌then◌else◌, ◌==◌}
use Rattle.std.specs.List.{slice_get, flat_map, AllByRecursion}
use Rattle.std.proofs.lemmas.Grind.{flat_map-append}
use Rattle.std.proofs.lemmas.Bool.{eq-eqb, ne_eqb, eqb-true}
use Rattle.relay_model.specs.declared.said.Told.{Told}
use Rattle.relay_model.specs.declared.said.Said.{Said}
use Rattle.relay_model.specs.declared.said.Said.TheVariants as said
use Rattle.relay_model.specs.Told.{told}
use Rattle.broker_model.specs.declared.journal.Entry.{Entry}
use Rattle.broker_model.specs.Ids.{Made, Joined}
use Rattle.broker_model.specs.Resolve.{past_of, resolve}
use Rattle.broker_model.specs.Groups.{Piece, pair_of, followed_by}
use Rattle.broker_model.specs.Out.{Outgoing, act_at, group_at, fits, before_group, out_for}
use Rattle.broker_model.proofs.EachElement.{each_append}
use Rattle.broker_core.specs.Lives.{Numbered}
use Rattle.broker_core.specs.Stands.{numbered}
use Rattle.broker_core.specs.Watched.{Watched, shown, shown_by, group_put, out_put, told_of}
use Rattle.broker_core.specs.Watched.Watched.{Put}
use Rattle.audit_fields.proofs.EventsGathered.{put_to, puts_to, IsInner}

-- the bytes that the newest entry puts for the peer with the label
abbrev pub put_of : ℕ → Entry → List Entry → ℕ → List ℕ
put_of capacity e older label =
    (if fits capacity (group_at e older label) (before_group e older label (out_for capacity older label))
    then (group_at e older label).bytes
    else [])

-- all that was put for it, with one entry more
pub put_more : (capacity : ℕ) (e : Entry) (older : List Entry) (label : ℕ) →
    (out_for capacity (e ∷ older) label).put.bytes
    ≡ (out_for capacity older label).put.bytes ++ put_of capacity e older label
put_more capacity e older label =
    by (fits capacity (group_at e older label) (before_group e older label (out_for capacity older label)))
  where
    out : Outgoing
    out = before_group e older label (out_for capacity older label)

    by : (b : Bool) →
        (if b then record out { put = followed_by out.put (group_at e older label) }
        else record out { choked = true }).put.bytes
        ≡ (out_for capacity older label).put.bytes ++ (if b then (group_at e older label).bytes else [])
    by true = refl
    by false = sym (append-nil (out_for capacity older label).put.bytes)

-- ---- what the shell is told

shown_inner : (n : ℕ) (made : List Made) (peers : List Numbered) (event : Said) →
    AllByRecursion IsInner (shown n made peers event)
shown_inner n made peers (said.Placed popup x y) = (tt, tt)
shown_inner n made peers (said.Pass time key state) = (tt, tt)
shown_inner n made peers (said.VMods mods) = (tt, tt)
shown_inner n made peers _ = tt

shown_none : (n q : ℕ) (made : List Made) (peers : List Numbered) (event : Said) →
    puts_to q (shown n made peers event) ≡ []
shown_none n q made peers (said.Placed popup x y) = refl
shown_none n q made peers (said.Pass time key state) = refl
shown_none n q made peers (said.VMods mods) = refl
shown_none n q made peers _ = refl

all_shown_inner : (n : ℕ) (made : List Made) (peers : List Numbered) (ts : List Told) →
    AllByRecursion IsInner (shown_by n made peers ts)
all_shown_inner n made peers [] = tt
all_shown_inner n made peers (t ∷ ts) =
    each_append IsInner (shown n made peers t.event) (shown_by n made peers ts) (shown_inner n made peers t.event)
    (all_shown_inner n made peers ts)

all_shown_none : (n q : ℕ) (made : List Made) (peers : List Numbered) (ts : List Told) →
    puts_to q (shown_by n made peers ts) ≡ []
all_shown_none n q made peers [] = refl
all_shown_none n q made peers (t ∷ ts) =
    flat_map-append (put_to q) (shown n made peers t.event) (shown_by n made peers ts)
    ∙ ap₂ (λ (a b : List ℕ). a ++ b) (shown_none n q made peers t.event) (all_shown_none n q made peers ts)

-- ---- what is put

put_inner : (n q : ℕ) (group : Piece) → AllByRecursion IsInner (group_put n q group)
put_inner n q group = by (length group.bytes == 0)
  where
    by : (b : Bool) → AllByRecursion IsInner (if b then [] else Put n q group.bytes (map pair_of group.tokens) ∷ [])
    by true = tt
    by false = (tt, tt)

no_bytes : (bytes : List ℕ) → (length bytes == 0) ≡ true → [] ≡ bytes
no_bytes [] e = refl
no_bytes (x ∷ bytes) e = (let is = eqb-true (suc (length bytes)) 0 e in absurd (omega (arith, is)))

put_own : (n q : ℕ) (group : Piece) → puts_to q (group_put n q group) ≡ group.bytes
put_own n q group = by (length group.bytes == 0) refl
  where
    by : (b : Bool) → (length group.bytes == 0) ≡ b →
        puts_to q (if b then [] else Put n q group.bytes (map pair_of group.tokens) ∷ []) ≡ group.bytes
    by true e = no_bytes group.bytes e
    by false e = rw (eq-eqb q q refl) (append-nil group.bytes)

put_others : (n p q : ℕ) (group : Piece) → (p ≡ q → ⊥) → puts_to q (group_put n p group) ≡ []
put_others n p q group d = by (length group.bytes == 0)
  where
    by : (b : Bool) → puts_to q (if b then [] else Put n p group.bytes (map pair_of group.tokens) ∷ []) ≡ []
    by true = refl
    by false = rw (ne_eqb p q d) refl

out_inner : (capacity : ℕ) (e : Entry) (older : List Entry) (p : Numbered) →
    AllByRecursion IsInner (out_put capacity e older p)
out_inner capacity e older p =
    by (fits capacity (group_at e older p.peer.label)
    (before_group e older p.peer.label (out_for capacity older p.peer.label)))
  where
    by : (b : Bool) →
        AllByRecursion IsInner (if b then group_put (length older + 1) p.number (group_at e older p.peer.label) else [])
    by true = put_inner (length older + 1) p.number (group_at e older p.peer.label)
    by false = tt

out_own : (capacity : ℕ) (e : Entry) (older : List Entry) (p : Numbered) →
    puts_to p.number (out_put capacity e older p) ≡ put_of capacity e older p.peer.label
out_own capacity e older p =
    by (fits capacity (group_at e older p.peer.label)
    (before_group e older p.peer.label (out_for capacity older p.peer.label)))
  where
    by : (b : Bool) →
        puts_to p.number (if b then group_put (length older + 1) p.number (group_at e older p.peer.label) else [])
        ≡ (if b then (group_at e older p.peer.label).bytes else [])
    by true = put_own (length older + 1) p.number (group_at e older p.peer.label)
    by false = refl

out_others : (capacity q : ℕ) (e : Entry) (older : List Entry) (p : Numbered) → (p.number ≡ q → ⊥) →
    puts_to q (out_put capacity e older p) ≡ []
out_others capacity q e older p d =
    by (fits capacity (group_at e older p.peer.label)
    (before_group e older p.peer.label (out_for capacity older p.peer.label)))
  where
    by : (b : Bool) →
        puts_to q (if b then group_put (length older + 1) p.number (group_at e older p.peer.label) else []) ≡ []
    by true = put_others (length older + 1) p.number q (group_at e older p.peer.label) d
    by false = refl

all_out_inner : (capacity : ℕ) (e : Entry) (older : List Entry) (ps : List Numbered) →
    AllByRecursion IsInner (flat_map (out_put capacity e older) ps)
all_out_inner capacity e older [] = tt
all_out_inner capacity e older (p ∷ ps) =
    each_append IsInner (out_put capacity e older p) (flat_map (out_put capacity e older) ps)
    (out_inner capacity e older p)
    (all_out_inner capacity e older ps)

-- those behind a number put nothing for it
later_none : (capacity q j : ℕ) (e : Entry) (older : List Entry) (joined : List Joined) → q < j →
    puts_to q (flat_map (out_put capacity e older) (numbered j joined)) ≡ []
later_none capacity q j e older [] l = refl
later_none capacity q j e older (peer ∷ joined) l =
    let p : Numbered = record { number = j; peer = peer } in
    flat_map-append (put_to q) (out_put capacity e older p)
    (flat_map (out_put capacity e older) (numbered (suc j) joined))
    ∙ ap₂ (λ (a b : List ℕ). a ++ b) (out_others capacity q e older p (λ s. omega (arith, s, l)))
    (later_none capacity q (suc j) e older joined (omega (arith, l)))

numbered_put : (capacity q j k : ℕ) (e : Entry) (older : List Entry) (joined : List Joined) (peer : Joined) →
    q ≡ j + k →
    slice_get joined k ≡ Some peer →
    puts_to q (flat_map (out_put capacity e older) (numbered j joined)) ≡ put_of capacity e older peer.label
numbered_put capacity q j k e older [] peer is at = cc
numbered_put capacity q j zero e older (x ∷ joined) peer is at =
    let p : Numbered = record { number = j; peer = x } in
    let same : x ≡ peer = cc in
    let here : q ≡ j = omega (arith, is) in
    flat_map-append (put_to q) (out_put capacity e older p)
    (flat_map (out_put capacity e older) (numbered (suc j) joined))
    ∙ ap₂ (λ (a b : List ℕ). a ++ b)
    (ap (λ i. puts_to i (out_put capacity e older p)) here ∙ out_own capacity e older p)
    (later_none capacity q (suc j) e older joined (omega (arith, is)))
    ∙ append-nil (put_of capacity e older x.label)
    ∙ ap (λ (y : Joined). put_of capacity e older y.label) same
numbered_put capacity q j (suc k) e older (x ∷ joined) peer is at =
    let p : Numbered = record { number = j; peer = x } in
    flat_map-append (put_to q) (out_put capacity e older p)
    (flat_map (out_put capacity e older) (numbered (suc j) joined))
    ∙ ap₂ (λ (a b : List ℕ). a ++ b) (out_others capacity q e older p (λ s. omega (arith, s, is)))
    (numbered_put capacity q (suc j) k e older joined peer (omega (arith, is)) at)

-- ---- all that is watched behind the entry itself

pub told_inner : (capacity : ℕ) (e : Entry) (older : List Entry) → AllByRecursion IsInner (told_of capacity e older)
told_inner capacity e older =
    let past = past_of (e ∷ older) in
    let peers : List Numbered = numbered 1 past.joined in
    each_append IsInner (shown_by (length older + 1) past.made peers (told (act_at e older) (resolve older)))
    (flat_map (out_put capacity e older) peers)
    (all_shown_inner (length older + 1) past.made peers (told (act_at e older) (resolve older)))
    (all_out_inner capacity e older peers)

pub told_put : (capacity k : ℕ) (e : Entry) (older : List Entry) (peer : Joined) →
    slice_get (past_of (e ∷ older)).joined k ≡ Some peer →
    puts_to (suc k) (told_of capacity e older) ≡ put_of capacity e older peer.label
told_put capacity k e older peer at =
    let past = past_of (e ∷ older) in
    let peers : List Numbered = numbered 1 past.joined in
    let shows : List Watched = shown_by (length older + 1) past.made peers (told (act_at e older) (resolve older)) in
    flat_map-append (put_to (suc k)) shows (flat_map (out_put capacity e older) peers)
    ∙ ap₂ (λ (a b : List ℕ). a ++ b)
    (all_shown_none (length older + 1) (suc k) past.made peers (told (act_at e older) (resolve older)))
    (numbered_put capacity (suc k) 1 k e older past.joined peer (omega arith) at)
