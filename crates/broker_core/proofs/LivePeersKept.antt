-- Live peers that an entry leaves as they were, but for what it tells them.
use Rattle.std.proofs.Common.{◌≡◌, ℕ, ◌+◌, List, [], ◌∷◌, ◌++◌, map, Bool, true, false, cond, Some, ap, sym, subst, ◌∙◌, arith}
use Rattle.std.specs.Prelude.{filter}
use Rattle.std.specs.List.{AllByRecursion}
use Rattle.im_objects.specs.Calls.{Call}
use Rattle.im_objects.specs.Objects as table
use Rattle.relay_model.specs.Objects.{is_peer}
use Rattle.broker_model.specs.declared.journal.Entry.{Entry}
use Rattle.broker_model.specs.Ids.{log_of, peer_at}
use Rattle.broker_model.specs.Waiting.{waiting_with}
use Rattle.broker_model.specs.Resolve.{past_of}
use Rattle.broker_model.specs.Out.{Outgoing, took_at, before_group, out_for}
use Rattle.broker_model.specs.Settle.{refused}
use Rattle.broker_model.specs.Tables.{calls_for}
use Rattle.broker_audience.specs.declared.live.Live.{Live}
use Rattle.broker_audience.specs.Lives.{who}
use Rattle.broker_core.specs.Stands.{Holds, IsLive, IsReady, roster}
use Rattle.broker_core.proofs.RosterAfterEntry.{each_alive}

-- nothing is taken of the peer
same_out : (e : Entry) (older : List Entry) (p : ℕ) (out : Outgoing) → took_at e (past_of older) p ≡ 0 →
    before_group e older p out ≡ out
same_out e older p out t =
    ap (λ (n : ℕ). record out { taken = n }) {x = out.taken + took_at e (past_of older) p} {y = out.taken}
    (omega (arith, t))

-- what is stored for it and out for it stays
pub record IsStill (capacity : ℕ) (e : Entry) (older : List Entry) (l : Live) : Type 0 where
  pub holds : Holds capacity (before_group e older l.label (out_for capacity older l.label)) l.store

pub ready_holds : (capacity : ℕ) (e : Entry) (older : List Entry) (l : Live) → IsLive capacity older l →
    took_at e (past_of older) l.label ≡ 0 →
    IsStill capacity e older l
ready_holds capacity e older l v t =
    record {
      holds =
          subst (λ (o : Outgoing). Holds capacity o l.store)
          (sym (same_out e older l.label (out_for capacity older l.label) t)) v.holds;
    }

pub ready_still : (capacity : ℕ) (e : Entry) (older : List Entry) (l : Live) → IsLive capacity older l →
    calls_for (e ∷ older) l.label ≡ calls_for older l.label → refused (e ∷ older) l.number ≡ refused older l.number →
    took_at e (past_of older) l.label ≡ 0 →
    waiting_with e (past_of older) l.label ≡ (past_of older).waiting l.label → IsReady capacity e older l
ready_still capacity e older l v c r t w = record {
  holds = (ready_holds capacity e older l v t).holds;
  choked = v.choked;
  room = v.room;
  table = subst (λ (calls : List Call). table.Stands calls l.table) (sym c) v.table;
  refused = v.refused ∙ sym r;
  waiting = v.waiting ∙ sym w;
}

-- a live peer is the one that joined with its number
abbrev pub IsItself : List Entry → Live → Type 0
IsItself journal l =
    (peer_at (past_of journal) l.number ≡ Some (record { label = l.label; role = l.role }))
    × (is_peer (log_of (past_of journal)) l.label ≡ true)

pub both : {A : Type 0} (P Q R : A → Type 0) (xs : List A) → ((x : A) → P x → Q x → R x) → AllByRecursion P xs →
    AllByRecursion Q xs → AllByRecursion R xs
both P Q R [] h p q = tt
both P Q R (x ∷ xs) h p q = (h x p.0 q.0, both P Q R xs h p.1 q.1)

pub all_ready : (capacity : ℕ) (e : Entry) (older : List Entry) (live : List Live) → map who live ≡ roster older →
    ((l : Live) → IsLive capacity older l → IsItself older l → IsReady capacity e older l) →
    AllByRecursion (IsLive capacity older) live → AllByRecursion (IsReady capacity e older) live
all_ready capacity e older live w h v =
    both (IsLive capacity older) (IsItself older) (IsReady capacity e older) live h v (each_alive older live w)

-- what holds of each holds of those that are kept

kept_here : {A : Type 0} (P : A → Type 0) (b : Bool) (x : A) (ys : List A) → P x → AllByRecursion P ys →
    AllByRecursion P (cond b (x ∷ ys) ys)
kept_here P true x ys p q = (p, q)
kept_here P false x ys p q = q

pub all_kept : {A : Type 0} (P : A → Type 0) (test : A → Bool) (xs : List A) → AllByRecursion P xs →
    AllByRecursion P (filter test xs)
all_kept P test [] p = tt
all_kept P test (x ∷ xs) p = kept_here P (test x) x (filter test xs) p.0 (all_kept P test xs p.1)

-- and of one more behind them
pub all_more : {A : Type 0} (P : A → Type 0) (xs : List A) (x : A) → AllByRecursion P xs → P x →
    AllByRecursion P (xs ++ x ∷ [])
all_more P [] x p q = (q, tt)
all_more P (y ∷ xs) x p q = (p.0, all_more P xs x p.1 q)
