-- What is queued for a field, over every history.
use Rattle.std.proofs.Common.{◌≡◌, ℕ, zero, suc, ◌+◌, ◌≤◌, List, [], ◌∷◌, ◌++◌, length, Bool, true, false, Option, Some, None, ap, refl, sym, ◌∙◌, arith, inl, inr, ◌⊎◌}
use Rattle.std.specs.Prelude.{◌==◌, ◌&&◌, ◌||◌, if◌then◌else◌}
use Rattle.std.specs.List.{Contains}
use Rattle.std.proofs.lemmas.Bool.{eqb-true, true≢false}
use Rattle.relay_model.specs.declared.act.Act.{Act}
use Rattle.relay_model.specs.declared.act.Act.TheVariants as acts
use Rattle.relay_model.specs.declared.act.EndCause.{EndCause}
use Rattle.relay_model.specs.declared.act.EndCause.TheVariants.{Bad, Full}
use Rattle.relay_model.specs.declared.said.Said.{Said}
use Rattle.relay_model.specs.Objects.{Object, is_field_kind, is_at, owner, remains, object, is_peer}
use Rattle.relay_model.specs.Hold.{holder}
use Rattle.relay_model.specs.Activation.{fresh}
use Rattle.relay_model.specs.Batch.{group_of, relayed}
use Rattle.relay_model.specs.Idle.{is_live}
use Rattle.relay_model.proofs.ActsOrIdle.{history_is}
use Rattle.relay_model.proofs.ObjectLaws.{object_step, kind_within}
use Rattle.relay_model.proofs.FocusLaws.{and_false}
use Rattle.broker_model.specs.declared.journal.Entry.{Entry}
use Rattle.broker_model.specs.declared.journal.Entry.TheVariants as entries
use Rattle.broker_model.specs.Ids.{Joined, log_of, peer_at}
use Rattle.broker_model.specs.Resolve.{past_of, resolve}
use Rattle.broker_model.specs.Groups.{Piece}
use Rattle.broker_model.specs.Out.{Outgoing, act_at, act_now, group_at, fits, with_group, before_group, out_for}
use Rattle.broker_model.specs.Settle.{is_bad, refused, is_due, due, cause_of, with_end, settled, number_alive, history}
use Rattle.broker_model.specs.Queued.{relays, is_put_for, is_put, queued}
use Rattle.broker_model.specs.Law.{maker_of, IsQueued, IsLeftOut, RelayLaw}
use Rattle.broker_model.proofs.OwnersLive.{IsThere, IsOwned, owned, dead_stays, dead_holds_not, holder_there, maker_is, maker_stays}
use Rattle.broker_model.proofs.LivePeersJoined.{IsNumbered, numbered, joined_stays}
use Rattle.broker_model.proofs.SettlingEnds.{IsDue, due_is, due_lives, IsSettled, history_settled, end_cleaned, end_log}

-- the acts of a journal, as a history
abbrev pub log_at : List Entry → List Act
log_at journal = log_of (past_of journal)

-- What stands of a field's batches in a journal that is being settled. All were put; or the last was left out, its
-- field lives, and its peer has to be ended for that; or it was.

pub record IsWaiting (capacity : ℕ) (journal : List Entry) (f : ℕ) : Type 0 where
  pub last : List Said
  pub all_but_last : queued capacity journal f ++ last ∷ [] ≡ relayed (log_at journal) f
  pub field : Object
  pub lives : object (log_at journal) f ≡ Some field
  pub kind : is_field_kind field.kind ≡ true
  pub choked : (out_for capacity journal field.peer).choked ≡ true
  pub accepted : (q : ℕ) (peer : Joined) → peer_at (past_of journal) q ≡ Some peer → peer.label ≡ field.peer →
      refused journal q ≡ false

pub record IsOver (capacity : ℕ) (journal : List Entry) (f : ℕ) : Type 0 where
  pub last : List Said
  pub all_but_last : queued capacity journal f ++ last ∷ [] ≡ relayed (log_at journal) f
  pub dead : object (log_at journal) f ≡ None
  pub within : f ≤ length (log_at journal)
  pub number : ℕ
  pub peer : Joined
  pub joined : peer_at (past_of journal) number ≡ Some peer
  pub made : maker_of (log_at journal) f ≡ Some peer.label
  pub ended : Contains journal (entries.End number Full)

pub data Standing (capacity : ℕ) (journal : List Entry) (f : ℕ) : Type 0 where
  All_put : queued capacity journal f ≡ relayed (log_at journal) f → Standing capacity journal f
  Waiting : IsWaiting capacity journal f → Standing capacity journal f
  Over : IsOver capacity journal f → Standing capacity journal f

-- an entry that relays nothing to f

queued_quiet : (capacity : ℕ) (e : Entry) (older : List Entry) (f : ℕ) → relays e older f ≡ false →
    queued capacity (e ∷ older) f ≡ queued capacity older f
queued_quiet capacity e older f h = rw h refl

relayed_quiet : (e : Entry) (older : List Entry) (f : ℕ) → relays e older f ≡ false →
    relayed (log_at (e ∷ older)) f ≡ relayed (log_at older) f
relayed_quiet e older f h = rw h refl

last_quiet : (capacity : ℕ) (e : Entry) (older : List Entry) (f : ℕ) (last : List Said) → relays e older f ≡ false →
    queued capacity older f ++ last ∷ [] ≡ relayed (log_at older) f →
    queued capacity (e ∷ older) f ++ last ∷ [] ≡ relayed (log_at (e ∷ older)) f
last_quiet capacity e older f last h k =
    ap (λ xs. xs ++ last ∷ []) (queued_quiet capacity e older f h) ∙ k ∙ sym (relayed_quiet e older f h)

dead_relays_not : (e : Entry) (older : List Entry) (f : ℕ) → object (log_at older) f ≡ None → relays e older f ≡ false
dead_relays_not e older f h =
    rw (dead_holds_not (log_at older) f (history_is (resolve older)) h)
    (and_false (fresh (act_now e older) (log_at older)))

contains_more : (e : Entry) (journal : List Entry) (x : Entry) → Contains journal x → Contains (e ∷ journal) x
contains_more e journal x c = (suc c.0, (let l = c.1 in omega arith), c.2)

over_stays : (capacity : ℕ) (e : Entry) (older : List Entry) (f : ℕ) → IsOver capacity older f →
    IsOver capacity (e ∷ older) f
over_stays capacity e older f o = record {
  last = o.last;
  all_but_last = last_quiet capacity e older f o.last (dead_relays_not e older f o.dead) o.all_but_last;
  dead = dead_stays (act_now e older) (log_at older) f o.within o.dead;
  within = (let w = o.within in omega arith);
  number = o.number;
  peer = o.peer;
  joined = joined_stays e (length older + 1) (past_of older).joined o.number o.peer o.joined;
  made = maker_stays (act_now e older) (log_at older) f o.within ∙ o.made;
  ended = contains_more e older (entries.End o.number Full) o.ended;
}

-- an end that settling appends

choked_by : (b : Bool) (capacity : ℕ) (group : Piece) (out : Outgoing) → fits capacity group out ≡ b →
    out.choked ≡ true →
    (with_group capacity group out).choked ≡ true
choked_by true capacity group out e h = rw e h
choked_by false capacity group out e h = rw e refl

choked_stays : (capacity : ℕ) (e : Entry) (older : List Entry) (p : ℕ) → (out_for capacity older p).choked ≡ true →
    (out_for capacity (e ∷ older) p).choked ≡ true
choked_stays capacity e older p h =
    choked_by (fits capacity (group_at e older p) (before_group e older p (out_for capacity older p))) capacity
    (group_at e older p)
    (before_group e older p (out_for capacity older p)) refl h

end_relays_not : (capacity : ℕ) (journal : List Entry) (q : ℕ) (f : ℕ) (d : IsDue capacity journal q) →
    relays (entries.End q (cause_of journal q)) journal f ≡ false
end_relays_not capacity journal q f d =
    ap (λ act. fresh act (log_at journal) && is_at (holder (log_at journal)) f)
    (end_cleaned journal q (cause_of journal q) d.peer d.joined (due_lives capacity journal q d))

waits_or_over : (capacity : ℕ) (journal : List Entry) (q f : ℕ) (d : IsDue capacity journal q)
    (w : IsWaiting capacity journal f) (b : Bool) →
    (w.field.peer == d.peer.label) ≡ b → Standing capacity (entries.End q (cause_of journal q) ∷ journal) f
waits_or_over capacity journal q f d w true e =
    let why : EndCause = cause_of journal q in
    let log : List Act = log_at journal in
    let new : log_at (entries.End q why ∷ journal) ≡ acts.Gone d.peer.label why ∷ log =
    end_log journal q why d.peer d.joined (due_lives capacity journal q d) in
    let within : f ≤ length log = kind_within is_field_kind log f (rw w.lives w.kind) in
    let same : w.field.peer ≡ d.peer.label = eqb-true w.field.peer d.peer.label e in
    let gone : object (acts.Gone d.peer.label why ∷ log) f ≡ None =
    object_step (acts.Gone d.peer.label why) log f within ∙ ap (remains (acts.Gone d.peer.label why) f) w.lives
    ∙ rw e refl in
    let cause : why ≡ Full = ap (λ b. if b then Bad else Full) (w.accepted q d.peer d.joined (sym same)) in
    Over (record {
      last = w.last;
      all_but_last =
          last_quiet capacity (entries.End q why) journal f w.last
          (end_relays_not capacity journal q f d) w.all_but_last;
      dead = ap (λ l. object l f) new ∙ gone;
      within = (let w' = within in omega arith);
      number = q;
      peer = d.peer;
      joined = d.joined;
      made =
          maker_stays (act_now (entries.End q why) journal) log f within ∙ maker_is log f w.field w.kind w.lives
          ∙ ap Some same;
      ended = (0, omega arith, ap (entries.End q) cause);
    })
waits_or_over capacity journal q f d w false e =
    let why : EndCause = cause_of journal q in
    let log : List Act = log_at journal in
    let new : log_at (entries.End q why ∷ journal) ≡ acts.Gone d.peer.label why ∷ log =
    end_log journal q why d.peer d.joined (due_lives capacity journal q d) in
    let within : f ≤ length log = kind_within is_field_kind log f (rw w.lives w.kind) in
    let kept : object (acts.Gone d.peer.label why ∷ log) f ≡ Some w.field =
    object_step (acts.Gone d.peer.label why) log f within ∙ ap (remains (acts.Gone d.peer.label why) f) w.lives
    ∙ rw e refl in
    Waiting (record {
      last = w.last;
      all_but_last =
          last_quiet capacity (entries.End q why) journal f w.last
          (end_relays_not capacity journal q f d) w.all_but_last;
      field = w.field;
      lives = ap (λ l. object l f) new ∙ kept;
      kind = w.kind;
      choked = choked_stays capacity (entries.End q why) journal w.field.peer w.choked;
      accepted = w.accepted;
    })

end_step : (capacity : ℕ) (journal : List Entry) (q f : ℕ) → due capacity journal ≡ Some q →
    Standing capacity journal f →
    Standing capacity (entries.End q (cause_of journal q) ∷ journal) f
end_step capacity journal q f e (All_put h) =
    let d : IsDue capacity journal q = due_is capacity journal q e in
    let quiet : relays (entries.End q (cause_of journal q)) journal f ≡ false = end_relays_not capacity journal q f d in
    All_put (queued_quiet capacity (entries.End q (cause_of journal q)) journal f quiet ∙ h
    ∙ sym (relayed_quiet (entries.End q (cause_of journal q)) journal f quiet))
end_step capacity journal q f e (Waiting w) =
    let d : IsDue capacity journal q = due_is capacity journal q e in
    waits_or_over capacity journal q f d w (w.field.peer == d.peer.label) refl
end_step capacity journal q f e (Over o) = Over (over_stays capacity (entries.End q (cause_of journal q)) journal f o)

standing_end : (capacity : ℕ) (journal : List Entry) (f : ℕ) (o : Option ℕ) → due capacity journal ≡ o →
    Standing capacity journal f →
    Standing capacity (with_end journal o) f
standing_end capacity journal f None e s = s
standing_end capacity journal f (Some q) e s = end_step capacity journal q f e s

standing_settled : (capacity fuel : ℕ) (journal : List Entry) (f : ℕ) → Standing capacity journal f →
    Standing capacity (settled capacity fuel journal) f
standing_settled capacity zero journal f s = s
standing_settled capacity (suc fuel) journal f s =
    standing_settled capacity fuel (with_end journal (due capacity journal)) f
    (standing_end capacity journal f (due capacity journal) refl s)

-- an outer step, where nobody is due before it

or_true : (b : Bool) → (b || true) ≡ true
or_true true = refl
or_true false = refl

never_waits : (capacity : ℕ) (journal : List Entry) (f : ℕ) → IsSettled capacity journal →
    IsWaiting capacity journal f → ⊥
never_waits capacity journal f s w =
    let own : IsOwned (log_at journal) f w.field =
    owned (log_at journal) f w.field (history_is (resolve journal)) w.lives in
    let k : IsNumbered (past_of journal).joined w.field.peer = numbered journal w.field.peer own.lives in
    let lives : is_peer (log_at journal) k.peer.label ≡ true = rw k.labelled own.lives in
    let choked : (out_for capacity journal k.peer.label).choked ≡ true = rw k.labelled w.choked in
    let d : is_due capacity journal k.number k.peer ≡ true = rw (lives, choked) (or_true (refused journal k.number)) in
    true≢false (sym d ∙ s.nobody k.number k.peer k.found)

fresh_keeps : (act : Act) (log : List Act) (x : ℕ) (o : Option Object) → fresh act log ≡ true → remains act x o ≡ o
fresh_keeps (acts.MCommit m serial) log x o h = refl
fresh_keeps _ log x o h = cc

fresh_accepted : (b : Bool) (act : Act) (log : List Act) → fresh (if b then act else acts.Idle) log ≡ true →
    is_bad act ≡ false
fresh_accepted true (acts.Bad p fault x) log h = cc
fresh_accepted true _ log h = refl
fresh_accepted false act log h = cc

if_both : (b c d : Bool) → c ≡ false → d ≡ false → (if b then c else d) ≡ false
if_both true c d h k = h
if_both false c d h k = k

or_false_left : (a b : Bool) → (a || b) ≡ false → a ≡ false
or_false_left true b h = cc
or_false_left false b h = refl

and_false_right : (a b : Bool) → a ≡ true → (a && b) ≡ false → b ≡ false
and_false_right true b h e = e
and_false_right false b h e = cc

-- a live peer that isn't due was not refused
not_refused : (capacity : ℕ) (journal : List Entry) (q p : ℕ) (peer : Joined) → IsSettled capacity journal →
    is_peer (log_at journal) p ≡ true →
    peer_at (past_of journal) q ≡ Some peer → peer.label ≡ p → refused journal q ≡ false
not_refused capacity journal q p peer s l e k =
    let here : is_peer (log_at journal) peer.label ≡ true = rw k l in
    or_false_left (refused journal q) _
    (and_false_right (is_peer (log_at journal) peer.label) _ here (s.nobody q peer e))

-- nor was the message that made a batch
accepts : (capacity : ℕ) (e : Entry) (older : List Entry) (q p : ℕ) (peer : Joined) →
    fresh (act_now e older) (log_at older) ≡ true →
    IsSettled capacity older → is_peer (log_at older) p ≡ true →
    peer_at (past_of (e ∷ older)) q ≡ Some peer → peer.label ≡ p → refused (e ∷ older) q ≡ false
accepts capacity (entries.Join role) older q p peer h s l e k = cc
accepts capacity (entries.Message n id opcode body) older q p peer h s l e k =
    if_both (n == q) _ _
    (fresh_accepted (is_live (act_at (entries.Message n id opcode body) older) (log_at older))
    (act_at (entries.Message n id opcode body) older) (log_at older) h)
    (not_refused capacity older q p peer s l e k)
accepts capacity (entries.BadSize n head) older q p peer h s l e k =
    if_both (n == q) _ _
    (fresh_accepted (is_live (act_at (entries.BadSize n head) older) (log_at older))
    (act_at (entries.BadSize n head) older) (log_at older) h)
    (not_refused capacity older q p peer s l e k)
accepts capacity _ older q p peer h s l e k = not_refused capacity older q p peer s l e k

choked_now : (capacity : ℕ) (group : Piece) (out : Outgoing) → fits capacity group out ≡ false →
    (with_group capacity group out).choked ≡ true
choked_now capacity group out e = rw e refl

both : (a b : Bool) → (a && b) ≡ true → (a ≡ true) × (b ≡ true)
both true true h = (refl, refl)
both true false h = cc
both false b h = cc

put_or_not : (capacity : ℕ) (e : Entry) (older : List Entry) (f : ℕ) (b : Bool) → is_put capacity e older f ≡ b →
    relays e older f ≡ true →
    IsSettled capacity older → queued capacity older f ≡ relayed (log_at older) f → Standing capacity (e ∷ older) f
put_or_not capacity e older f true p r s h = All_put (rw (r, p, h) refl)
put_or_not capacity e older f false p r s h =
    let act : Act = act_now e older in
    let log : List Act = log_at older in
    let t : (fresh act log ≡ true) × (is_at (holder log) f ≡ true) = both _ _ r in
    let there : IsThere is_field_kind (object log f) = holder_there log f (history_is (resolve older)) t.1 in
    let own : IsOwned log f there.found = owned log f there.found (history_is (resolve older)) there.is in
    let within : f ≤ length log = kind_within is_field_kind log f (rw there.is there.passes) in
    let full : fits capacity (group_at e older there.found.peer)
    (before_group e older there.found.peer (out_for capacity older there.found.peer)) ≡ false =
    ap (λ o. is_put_for capacity e older (owner o)) (sym there.is) ∙ p in
    let same : queued capacity (e ∷ older) f ≡ queued capacity older f = rw (r, p) refl in
    let more : relayed (log_at (e ∷ older)) f ≡ relayed log f ++ group_of act log f ∷ [] = rw r refl in
    Waiting (record {
      last = group_of act log f;
      all_but_last = ap (λ xs. xs ++ group_of act log f ∷ []) (same ∙ h) ∙ sym more;
      field = there.found;
      lives = object_step act log f within ∙ fresh_keeps act log f (object log f) t.0 ∙ there.is;
      kind = there.passes;
      choked = choked_now capacity _ _ full;
      accepted = λ q peer g k. accepts capacity e older q there.found.peer peer t.0 s own.lives g k;
    })

outer_by : (capacity : ℕ) (e : Entry) (older : List Entry) (f : ℕ) (b : Bool) → relays e older f ≡ b →
    IsSettled capacity older → queued capacity older f ≡ relayed (log_at older) f → Standing capacity (e ∷ older) f
outer_by capacity e older f true r s h = put_or_not capacity e older f (is_put capacity e older f) refl r s h
outer_by capacity e older f false r s h =
    All_put (queued_quiet capacity e older f r ∙ h ∙ sym (relayed_quiet e older f r))

outer_step : (capacity : ℕ) (e : Entry) (older : List Entry) (f : ℕ) → IsSettled capacity older →
    Standing capacity older f → Standing capacity (e ∷ older) f
outer_step capacity e older f s (All_put h) = outer_by capacity e older f (relays e older f) refl s h
outer_step capacity e older f s (Waiting w) = absurd (never_waits capacity older f s w)
outer_step capacity e older f s (Over o) = Over (over_stays capacity e older f o)

pub standing : (capacity : ℕ) (steps : List Entry) (f : ℕ) → Standing capacity (history capacity steps) f
standing capacity [] f = All_put refl
standing capacity (step ∷ older) f =
    standing_settled capacity (number_alive (step ∷ history capacity older)) (step ∷ history capacity older) f
    (outer_step capacity step (history capacity older) f (history_settled capacity older) (standing capacity older f))

law_by : (capacity : ℕ) (journal : List Entry) (f : ℕ) → IsSettled capacity journal → Standing capacity journal f →
    IsQueued capacity journal f ⊎ IsLeftOut capacity journal f
law_by capacity journal f s (All_put h) = inl h
law_by capacity journal f s (Waiting w) = absurd (never_waits capacity journal f s w)
law_by capacity journal f s (Over o) =
    inr (record {
      last = o.last;
      all_but_last = o.all_but_last;
      number = o.number;
      peer = o.peer;
      joined = o.joined;
      made = o.made;
      ended = o.ended;
    })

pub relay_law : RelayLaw
relay_law capacity steps f =
    law_by capacity (history capacity steps) f (history_settled capacity steps) (standing capacity steps f)
