-- An audit stands for one line more, or that line ends it.
use Rattle.std.proofs.Common.{◌≡◌, ℕ, ◌+◌, ◌-◌, Bool, true, false, List, [], ◌∷◌, ◌++◌, Option, Some, None, Result, Ok, Err, refl, sym, ap, ap₂, subst, ◌∙◌, arith}
use Rattle.std.specs.Prelude.{◌==◌, if◌then◌else◌, min, OnOk, IfErr}
use Rattle.broker_steps.specs.declared.stamp.Stamp.{Stamp}
use Rattle.broker_steps.specs.Ranges.{store_limit}
use Rattle.session_text.specs.declared.line.SessionLine.{SessionLine}
use Rattle.broker_model.specs.declared.journal.Entry.{Entry}
use Rattle.broker_model.specs.declared.journal.Kept.{Kept}
use Rattle.broker_model.specs.Ids.{Joined, peer_at}
use Rattle.broker_model.specs.Resolve.{past_of}
use Rattle.broker_core.specs.Broker.{kept_in}
use Rattle.seat_set.specs.declared.session.Stop.{Stop}
use Rattle.seat_set.specs.declared.session.Stop.TheVariants as stops
use Rattle.seat_set.specs.Played.{Play, Played, went}
use Rattle.seat_set.specs.Playing.{Playing}
use Rattle.seat_set.specs.Laws.{unplayed}
use Rattle.audit_fields.specs.Heard.{dones, IsLike}
use Rattle.audit_fields.specs.declared.comparison.HearEnd.TheVariants as hears
use Rattle.audit_fields.specs.Gathering.{Gathering, is_app}
use Rattle.audit_fields.specs.Going.{IsGathered}
use Rattle.audit_fields.specs.Hearing.{IsSent, IsHeardBy, IsHeardFor, IsHeardOf, IsUnlike}
use Rattle.audit_run.specs.declared.audit_line.AuditLine.{AuditLine}
use Rattle.audit_run.specs.declared.audit_line.AuditLine.TheVariants.{Step, Out}
use Rattle.audit_run.specs.declared.audit.AuditEnd.{AuditEnd}
use Rattle.audit_run.specs.declared.audit.AuditEnd.TheVariants as ends
use Rattle.audit_run.specs.Taking.{audit_limits, step_judged}
use Rattle.audit_run.specs.Judged.{line_judged, judged, journal_of, peer_of, sent_more, sent, owed, new_dones, dones_of, most_dones, of_stop, answer_of, IsGoodFor, IsFair, IsEnd}
use Rattle.audit_run.specs.Standing.{Auditing, GoesOn, Stands, Leads}

-- no line came
pub none_stand : (a : Auditing) → a.ended ≡ None → a.player.limits ≡ audit_limits → a.player.play ≡ unplayed →
    a.player.is_spent ≡ false → a.gathering.is_short ≡ false →
    IsGathered store_limit (λ q. []) [] a.gathering → a.dones ≡ 0 → Stands [] a
none_stand a ended limits play unspent whole gathered dones = record {
  unended = ended;
  fair = tt;
  played = ap went (sym play);
  goes = record {
    unspent = unspent;
    limits = limits;
    whole = whole;
    gathered = subst (λ (p : Play). IsGathered store_limit (λ q. []) p.journal a.gathering) (sym play) gathered;
  };
  counted = dones;
}

-- ---- a step

went_is : (p : Played) (play : Play) → p.is_full ≡ false → play ≡ p.play → p ≡ went play
went_is p play h e = ap₂ (λ (x : Play) (b : Bool). (let r : Played = record { play = x; is_full = b } in r)) (sym e) h

step_at : (lines : List AuditLine) (stamp : Stamp) (said : SessionLine) (a : Auditing) → Stands lines a →
    judged (Step stamp said ∷ lines) ≡ step_judged said a.player.play
step_at lines stamp said a s = ap (line_judged (Step stamp said)) s.played

pub step_fair : (lines : List AuditLine) (stamp : Stamp) (said : SessionLine) (a : Auditing) (player : Playing)
    (g : Gathering) → Stands lines a →
    Leads (step_judged said a.player.play) (λ q. sent lines q) (Ok tt) player g →
    IsFair (Step stamp said) lines
step_fair lines stamp said a player g s l = ap (λ (p : Played). p.is_full) (step_at lines stamp said a s) ∙ l.0

pub step_stands : (lines : List AuditLine) (stamp : Stamp) (said : SessionLine) (a : Auditing) (player : Playing)
    (g : Gathering) → Stands lines a →
    Leads (step_judged said a.player.play) (λ q. sent lines q) (Ok tt) player g →
    Stands (Step stamp said ∷ lines) (record a { player = player; gathering = g })
step_stands lines stamp said a player g s l = record {
  unended = s.unended;
  fair = (step_fair lines stamp said a player g s l, s.fair);
  played = step_at lines stamp said a s ∙ went_is (step_judged said a.player.play) player.play l.0 l.1;
  goes = l.2;
  counted = s.counted;
}

pub step_ends : (lines : List AuditLine) (stamp : Stamp) (said : SessionLine) (why : Stop) (a : Auditing)
    (player : Playing) (g : Gathering) → Stands lines a →
    Leads (step_judged said a.player.play) (λ q. sent lines q) (Err why) player g →
    IsEnd (Step stamp said) lines (of_stop why)
step_ends lines stamp said (stops.Full kept) a player g s l =
    let at = step_at lines stamp said a s in
    (ap (λ (p : Played). p.is_full) at ∙ l.0, l.1 ∙ sym (ap (λ (p : Played). kept_in p.play.journal) at))
step_ends lines stamp said stops.NoMemory a player g s l = tt

-- ---- what was sent

journal_at : (lines : List AuditLine) (a : Auditing) → Stands lines a → journal_of lines ≡ a.player.play.journal
journal_at lines a s = ap (λ (p : Played). p.play.journal) s.played

peer_is : (lines : List AuditLine) (a : Auditing) (q : ℕ) → Stands lines a →
    peer_of lines q ≡ peer_at (past_of a.player.play.journal) q
peer_is lines a q s = ap (λ (j : List Entry). peer_at (past_of j) q) (journal_at lines a s)

pub sent_is : (lines : List AuditLine) (q : ℕ) (bytes : List ℕ) (a : Auditing) → Stands lines a →
    IsSent q bytes a.player.play.journal (λ r. sent lines r) (λ r. sent (Out q bytes ∷ lines) r)
sent_is lines q bytes a s = record {
  joined = λ r peer at. ap (λ (o : Option Joined). sent_more o (sent lines r) (if q == r then bytes else []))
      (peer_is lines a r s ∙ at);
  others = λ r at. ap (λ (o : Option Joined). sent_more o (sent lines r) (if q == r then bytes else []))
      (peer_is lines a r s ∙ at);
}

good_by : (q n : ℕ) (bytes : List ℕ) (journal : List Entry) (all : ℕ → List ℕ) (o : Option Joined) →
    IsHeardFor store_limit q bytes journal all n o → IsGoodFor journal o (all q ++ bytes)
good_by q n bytes journal all None h = tt
good_by q n bytes journal all (Some peer) h = λ app. (h.0 app).like

pub out_fair : (lines : List AuditLine) (q n : ℕ) (bytes : List ℕ) (a : Auditing) → Stands lines a →
    IsHeardFor store_limit q bytes a.player.play.journal (λ r. sent lines r) n
    (peer_at (past_of a.player.play.journal) q) →
    IsFair (Out q bytes) lines
out_fair lines q n bytes a s h =
    subst (λ (j : List Entry). IsGoodFor j (peer_at (past_of j) q) (sent lines q ++ bytes)) (sym (journal_at lines a s))
    (good_by q n bytes a.player.play.journal (λ r. sent lines r) (peer_at (past_of a.player.play.journal) q) h)

counted_by : (q n : ℕ) (bytes : List ℕ) (journal : List Entry) (all : ℕ → List ℕ) (o : Option Joined) →
    IsHeardFor store_limit q bytes journal all n o → new_dones o (all q) bytes ≡ n
counted_by q n bytes journal all None h = sym h
counted_by q n bytes journal all (Some peer) h = by (is_app peer.role) h.0 h.1
  where
    was : ℕ
    was = dones (all q)

    now : ℕ
    now = dones (all q ++ bytes)

    by : (b : Bool) → (b ≡ true → IsHeardBy (owed journal peer) (all q) bytes n) → (b ≡ false → n ≡ 0) →
        (if b then now - was else 0) ≡ n
    by true h none = (let more = (h refl).counted in omega (arith, more))
    by false h none = sym (none refl)

pub out_stands : (lines : List AuditLine) (q n count : ℕ) (bytes : List ℕ) (a : Auditing) (g : Gathering) →
    Stands lines a → g.is_short ≡ a.gathering.is_short →
    IsHeardOf store_limit q bytes a.player.play.journal (λ r. sent lines r) n (λ r. sent (Out q bytes ∷ lines) r) g →
    count ≡ min (a.dones + n) most_dones →
    Stands (Out q bytes ∷ lines) (record a { gathering = g; dones = count })
out_stands lines q n count bytes a g s whole h sum = record {
  unended = s.unended;
  fair = (out_fair lines q n bytes a s h.heard, s.fair);
  played = s.played;
  goes = record {
    unspent = s.goes.unspent;
    limits = s.goes.limits;
    whole = whole ∙ s.goes.whole;
    gathered = h.gathered;
  };
  counted =
      let new : new_dones (peer_of lines q) (sent lines q) bytes ≡ n =
      ap (λ (o : Option Joined). new_dones o (sent lines q) bytes) (peer_is lines a q s)
      ∙ counted_by q n bytes a.player.play.journal (λ r. sent lines r) (peer_at (past_of a.player.play.journal) q)
      h.heard in
      sums (dones_of lines) a.dones n (new_dones (peer_of lines q) (sent lines q) bytes) count s.counted new sum;
}
  where
    sums : (all was n new count : ℕ) → was ≡ min all most_dones → new ≡ n → count ≡ min (was + n) most_dones →
        count ≡ min (all + new) most_dones
    sums all was n new count a b c = omega (arith, a, b, c)

pub out_ends : (lines : List AuditLine) (q : ℕ) (bytes : List ℕ) (a : Auditing) → Stands lines a →
    IsUnlike store_limit q bytes a.player.play.journal (λ r. sent lines r) hears.Unlike →
    IsEnd (Out q bytes) lines ends.No
out_ends lines q bytes a s h = λ good.
    let there : peer_of lines q ≡ Some h.peer = peer_is lines a q s ∙ h.joined in
    let of-peer : IsGoodFor (journal_of lines) (Some h.peer) (sent lines q ++ bytes) =
    subst (λ (o : Option Joined). IsGoodFor (journal_of lines) o (sent lines q ++ bytes)) there good in
    h.unlike (subst (λ (j : List Entry). IsLike (owed j h.peer) (sent lines q ++ bytes)) (journal_at lines a s)
    (of-peer h.app))

-- ---- the same by what was answered

-- what a step that was played led to
abbrev LedTo : SessionLine → Auditing → Result (Unit {0}) Stop → Playing → Gathering → Type 0
LedTo said a r player g = (all : ℕ → List ℕ) → GoesOn all a.player a.gathering →
    Leads (step_judged said a.player.play) all r player g

step_by_fair : (stamp : Stamp) (said : SessionLine) (a : Auditing) (player : Playing) (g : Gathering)
    (r : Result (Unit {0}) Stop) → LedTo said a r player g →
    OnOk (answer_of r) ((lines : List AuditLine) → Stands lines a → IsFair (Step stamp said) lines)
step_by_fair stamp said a player g (Ok done) l = λ lines s.
    step_fair lines stamp said a player g s (l (λ q. sent lines q) s.goes)
step_by_fair stamp said a player g (Err why) l = tt

step_by_stands : (stamp : Stamp) (said : SessionLine) (a : Auditing) (player : Playing) (g : Gathering)
    (r : Result (Unit {0}) Stop) → LedTo said a r player g →
    OnOk (answer_of r) ((lines : List AuditLine) → Stands lines a →
    Stands (Step stamp said ∷ lines) (record a { player = player; gathering = g }))
step_by_stands stamp said a player g (Ok done) l = λ lines s.
    step_stands lines stamp said a player g s (l (λ q. sent lines q) s.goes)
step_by_stands stamp said a player g (Err why) l = tt

step_by_ends : (stamp : Stamp) (said : SessionLine) (a : Auditing) (player : Playing) (g : Gathering)
    (r : Result (Unit {0}) Stop) → LedTo said a r player g →
    IfErr (answer_of r) (λ why. (lines : List AuditLine) → Stands lines a → IsEnd (Step stamp said) lines why)
step_by_ends stamp said a player g (Ok done) l = tt
step_by_ends stamp said a player g (Err why) l = λ lines s.
    step_ends lines stamp said why a player g s (l (λ q. sent lines q) s.goes)

pub answered_fair : (line : AuditLine) (stamp : Stamp) (said : SessionLine) (was a : Auditing) (player : Playing)
    (g : Gathering) (r : Result (Unit {0}) Stop) (e : Result (Unit {0}) AuditEnd) → was ≡ a → line ≡ Step stamp said →
    e ≡ answer_of r → LedTo said was r player g →
    OnOk e ((lines : List AuditLine) → Stands lines a → IsFair line lines)
answered_fair line stamp said was a player g r e view is answer l =
    subst (λ (x : Result (Unit {0}) AuditEnd). OnOk x ((lines : List AuditLine) → Stands lines a → IsFair line lines))
    (sym answer)
    (subst (λ (y : AuditLine). OnOk (answer_of r) ((lines : List AuditLine) → Stands lines a → IsFair y lines)) (sym is)
    (step_by_fair stamp said a player g r (subst (λ (b : Auditing). LedTo said b r player g) view l)))

pub answered_stands : (line : AuditLine) (stamp : Stamp) (said : SessionLine) (was a : Auditing) (player : Playing)
    (g : Gathering) (r : Result (Unit {0}) Stop) (e : Result (Unit {0}) AuditEnd) → was ≡ a → line ≡ Step stamp said →
    e ≡ answer_of r → LedTo said was r player g →
    OnOk e ((lines : List AuditLine) → Stands lines a →
    Stands (line ∷ lines) (record was { player = player; gathering = g }))
answered_stands line stamp said was a player g r e view is answer l =
    subst (λ (x : Result (Unit {0}) AuditEnd). OnOk x ((lines : List AuditLine) → Stands lines a →
    Stands (line ∷ lines) (record was { player = player; gathering = g }))) (sym answer)
    (subst (λ (y : AuditLine). OnOk (answer_of r) ((lines : List AuditLine) → Stands lines a →
    Stands (y ∷ lines) (record was { player = player; gathering = g }))) (sym is)
    (subst (λ (b : Auditing). OnOk (answer_of r) ((lines : List AuditLine) → Stands lines b →
    Stands (Step stamp said ∷ lines) (record was { player = player; gathering = g }))) view
    (step_by_stands stamp said was player g r l)))

pub answered_ends : (line : AuditLine) (stamp : Stamp) (said : SessionLine) (was a : Auditing) (player : Playing)
    (g : Gathering) (r : Result (Unit {0}) Stop) (e : Result (Unit {0}) AuditEnd) → was ≡ a → line ≡ Step stamp said →
    e ≡ answer_of r → LedTo said was r player g →
    IfErr e (λ why. (lines : List AuditLine) → Stands lines a → IsEnd line lines why)
answered_ends line stamp said was a player g r e view is answer l =
    subst (λ (x : Result (Unit {0}) AuditEnd). IfErr x (λ why. (lines : List AuditLine) → Stands lines a →
    IsEnd line lines why)) (sym answer)
    (subst (λ (y : AuditLine). IfErr (answer_of r) (λ why. (lines : List AuditLine) → Stands lines a →
    IsEnd y lines why)) (sym is)
    (step_by_ends stamp said a player g r (subst (λ (b : Auditing). LedTo said b r player g) view l)))

-- where the journal was full, it is the one of the lines
full_at : (lines : List AuditLine) (stamp : Stamp) (said : SessionLine) (kept : Kept) (a : Auditing)
    (player : Playing) (g : Gathering) (r : Result (Unit {0}) Stop) → LedTo said a r player g →
    answer_of r ≡ Err (ends.JournalFull kept) → Stands lines a →
    player.play.journal ≡ journal_of (Step stamp said ∷ lines)
full_at lines stamp said kept a player g (Ok done) l e s = cc
full_at lines stamp said kept a player g (Err stops.NoMemory) l e s = cc
full_at lines stamp said kept a player g (Err (stops.Full most)) l e s =
    (l (λ q. sent lines q) s.goes).2
    ∙ sym (ap (λ (p : Played). p.play.journal) (step_at lines stamp said a s))

pub answered_full : (line : AuditLine) (stamp : Stamp) (said : SessionLine) (was a : Auditing) (player : Playing)
    (g : Gathering) (r : Result (Unit {0}) Stop) (e : Result (Unit {0}) AuditEnd) (kept : Kept)
    (lines : List AuditLine) → was ≡ a → line ≡ Step stamp said → e ≡ answer_of r → LedTo said was r player g →
    e ≡ Err (ends.JournalFull kept) → Stands lines a → player.play.journal ≡ journal_of (line ∷ lines)
answered_full line stamp said was a player g r e kept lines view is answer l full s =
    subst (λ (y : AuditLine). player.play.journal ≡ journal_of (y ∷ lines)) (sym is)
    (full_at lines stamp said kept was player g r l (sym answer ∙ full)
    (subst (λ (b : Auditing). Stands lines b) (sym view) s))

-- what was heard of bytes that were sent
abbrev HeardAll : ℕ → List ℕ → ℕ → Gathering → Gathering → Type 0
HeardAll q bytes n g h = (capacity : ℕ) (all after : ℕ → List ℕ) (journal : List Entry) →
    IsGathered capacity all journal g → IsSent q bytes journal all after →
    IsHeardOf capacity q bytes journal all n after h

heard_of : (lines : List AuditLine) (q n : ℕ) (bytes : List ℕ) (a : Auditing) (h : Gathering) → Stands lines a →
    HeardAll q bytes n a.gathering h →
    IsHeardOf store_limit q bytes a.player.play.journal (λ r. sent lines r) n (λ r. sent (Out q bytes ∷ lines) r) h
heard_of lines q n bytes a h s heard =
    heard store_limit (λ r. sent lines r) (λ r. sent (Out q bytes ∷ lines) r) a.player.play.journal s.goes.gathered
    (sent_is lines q bytes a s)

pub heard_fair : (line : AuditLine) (q n : ℕ) (bytes given : List ℕ) (was a : Auditing) (h : Gathering) → was ≡ a →
    line ≡ Out q bytes → given ≡ bytes → HeardAll q given n was.gathering h → (lines : List AuditLine) →
    Stands lines a → IsFair line lines
heard_fair line q n bytes given was a h view is same heard lines s =
    subst (λ (y : AuditLine). IsFair y lines) (sym is)
    (out_fair lines q n bytes a s
    (heard_of lines q n bytes a h s
    (subst (λ (l : List ℕ). HeardAll q l n a.gathering h) same
    (subst (λ (b : Auditing). HeardAll q given n b.gathering h) view heard))).heard)

pub heard_stands : (line : AuditLine) (q n count : ℕ) (bytes given : List ℕ) (was a : Auditing) (h : Gathering) →
    was ≡ a → line ≡ Out q bytes → given ≡ bytes → HeardAll q given n was.gathering h →
    h.is_short ≡ was.gathering.is_short → count ≡ min (was.dones + n) most_dones → (lines : List AuditLine) →
    Stands lines a → Stands (line ∷ lines) (record was { gathering = h; dones = count })
heard_stands line q n count bytes given was a h view is same heard whole sum lines s =
    let own : Stands lines was = subst (λ (b : Auditing). Stands lines b) (sym view) s in
    subst (λ (y : AuditLine). Stands (y ∷ lines) (record was { gathering = h; dones = count })) (sym is)
    (out_stands lines q n count bytes was h own whole
    (heard_of lines q n bytes was h own (subst (λ (l : List ℕ). HeardAll q l n was.gathering h) same heard)) sum)

pub heard_ends : (line : AuditLine) (q : ℕ) (bytes given : List ℕ) (was a : Auditing) → was ≡ a →
    line ≡ Out q bytes → given ≡ bytes →
    ((capacity : ℕ) (all : ℕ → List ℕ) (journal : List Entry) → IsGathered capacity all journal was.gathering →
    IsUnlike capacity q given journal all hears.Unlike) → (lines : List AuditLine) → Stands lines a →
    IsEnd line lines ends.No
heard_ends line q bytes given was a view is same unlike lines s =
    let own : Stands lines was = subst (λ (b : Auditing). Stands lines b) (sym view) s in
    subst (λ (y : AuditLine). IsEnd y lines ends.No) (sym is)
    (out_ends lines q bytes was own
    (subst (λ (l : List ℕ). IsUnlike store_limit q l was.player.play.journal (λ r. sent lines r) hears.Unlike) same
    (unlike store_limit (λ r. sent lines r) was.player.play.journal own.goes.gathered)))
