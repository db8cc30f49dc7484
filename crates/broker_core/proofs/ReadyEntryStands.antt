-- A state that is ready for an entry stands for the journal with it, once its act is told.
use Rattle.std.proofs.Common.{◌≡◌, ℕ, ◌+◌, ◌<◌, ◌≤◌, List, ◌∷◌, ◌++◌, length, map, ap, sym, subst, ◌∙◌, arith}
use Rattle.std.specs.List.{AllByRecursion}
use Rattle.std.proofs.lemmas.List.{length-map}
use Rattle.relay_model.specs.declared.said.Told.{Told}
use Rattle.relay_model.specs.Idle.{history}
use Rattle.relay_model.specs.Told.{told}
use Rattle.relay_model.proofs.ActsOrIdle.{length_history}
use Rattle.relay_core.specs.Stands as relay
use Rattle.broker_model.specs.declared.journal.Entry.{Entry}
use Rattle.broker_model.specs.Ids.{Made}
use Rattle.broker_model.specs.Enough.{made_at}
use Rattle.broker_model.specs.Kept.{kept_by, kept_of}
use Rattle.broker_model.proofs.EnoughIsTold.{enough_told}
use Rattle.broker_model.proofs.KeptIsEnough.{kept_enough}
use Rattle.broker_core.proofs.KeptTellsAll.{all_told_alike}
use Rattle.broker_model.specs.Resolve.{past_of, resolve}
use Rattle.broker_model.specs.Out.{act_at}
use Rattle.broker_model.proofs.LivePeersJoined.{length_resolve}
use Rattle.broker_audience.specs.declared.live.Live.{Live}
use Rattle.broker_core.specs.declared.state.State.{State}
use Rattle.broker_audience.specs.Lives.{told_all, who}
use Rattle.broker_audience.specs.Tells.{IsShort}
use Rattle.broker_core.specs.Stands.{StandsFor, Stands, AreLeft, IsLive, IsReadyFor}
use Rattle.broker_core.proofs.PutGroups.{all_played, same_who}
use Rattle.broker_core.proofs.ToldMessagesFit.{all_short}

-- what the act tells is short
pub short_told : (e : Entry) (s : State) → IsReadyFor e s →
    AllByRecursion IsShort (told (act_at e s.journal.entries) (resolve s.journal.entries))
short_told e s r = all_short (act_at e s.journal.entries) (resolve s.journal.entries) r.fit.0 r.fit.1

-- the relay took as many acts as there are entries
pub acts_few : (e : Entry) (s : State) → IsReadyFor e s → s.relay.state.acts < 4294967295
acts_few e s r =
    let taken : s.relay.state.acts ≡ length (history (resolve s.journal.entries)) = r.relayed.state.acts_now in
    let all : length (history (resolve s.journal.entries)) ≡ length (resolve s.journal.entries) =
    length_history (resolve s.journal.entries) in
    let each : length (resolve s.journal.entries) ≡ length s.journal.entries = length_resolve s.journal.entries in
    let few : length s.journal.entries < 4294967295 = r.few in
    omega arith

-- what is left to show of the state after it
pub record IsEntered (e : Entry) (s t : State) : Type 0 where
  pub entered : t.journal.entries ≡ e ∷ s.journal.entries
  pub relayed : relay.StandsFor t.relay (act_at e s.journal.entries ∷ resolve s.journal.entries)
  pub live :
      t.audience.live.items
      ≡ map (told_all s.audience.directory.made (told (act_at e s.journal.entries) (resolve s.journal.entries)))
      s.audience.live.items
  pub kept : t.audience.directory.made
      ≡ kept_by (act_at e s.journal.entries) (length s.journal.entries + 1) s.audience.directory.made
  pub labels : t.labels ≡ s.labels
  pub ended : t.ended ≡ s.ended
  pub capacity : t.capacity ≡ s.capacity
  pub room : s.journal.room ≤ t.journal.room + 1
  pub stamp_room : s.stamps.room ≤ t.stamps.room + 1
  pub stamped : length t.stamps.stamps ≡ length s.stamps.stamps + 1

pub stands_entered : (e : Entry) (s t : State) → IsReadyFor e s → IsEntered e s t → Stands t
stands_entered e s t r n =
    let J : List Entry = s.journal.entries in
    let all : List Told = told (act_at e J) (resolve J) in
    let now : t.audience.live.items ≡ map (told_all (past_of (e ∷ J)).made all) s.audience.live.items =
    n.live ∙ ap (λ (made : List Made). map (told_all made all) s.audience.live.items) r.made
    ∙ all_told_alike (past_of (e ∷ J)).made (made_at e J ++ kept_of J) all s.audience.live.items
    (enough_told e J (made_at e J ++ kept_of J) (kept_enough e J)).each in
    let many : length t.audience.live.items ≡ length s.audience.live.items =
    ap length now ∙ length-map s.audience.live.items (told_all (past_of (e ∷ J)).made all) in
    let for_it : StandsFor s.capacity (e ∷ J) t = record {
      recorded = n.entered;
      relayed = n.relayed;
      made = n.kept ∙ ap (kept_by (act_at e J) (length J + 1)) r.made;
      who = ap (map who) now ∙ same_who (past_of (e ∷ J)).made all s.audience.live.items ∙ r.who;
      live = subst (λ (l : List Live). AllByRecursion (IsLive s.capacity (e ∷ J)) l) (sym now)
          (all_played s.capacity e J s.audience.live.items r.live);
      labels = ap (λ ls. ls.items) n.labels ∙ r.labels;
      left = subst (λ ended. AreLeft s.capacity (e ∷ J) ended.items) (sym n.ended) r.left;
      fit = r.fit;
      store = n.capacity;
      room = (let a = r.room in let b = n.room in omega arith);
      stamp_room = (let a = r.stamp_room in let b = n.stamp_room in omega arith);
      stamped = (let a = r.stamped in let b = n.stamped in omega arith);
      ends = (let a = r.ends in omega arith);
      joins = r.joins;
    } in
    subst (λ (c : ℕ). StandsFor c t.journal.entries t) (sym n.capacity)
    (subst (λ (journal : List Entry). StandsFor s.capacity journal t) (sym n.entered) for_it)
