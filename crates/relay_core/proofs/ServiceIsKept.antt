-- What the relay keeps of the serving method, after what an act says of the hold.
use Rattle.std.proofs.Common.{◌≡◌, ℕ, ◌+◌, ◌%◌, ◌^◌, ◌≤◌, List, [], ◌∷◌, ◌++◌, length, Bool, true, false, Option, Some, None, ap, refl, sym, ◌∙◌, arith}
use Rattle.std.specs.Prelude.{min, nat_le, if◌then◌else◌, is_some}
use Rattle.std.proofs.lemmas.Bool.{le-leb, lt-leb}
use Rattle.relay_model.specs.declared.act.Act.{Act}
use Rattle.relay_model.specs.Activation.{Notice, Activates, Updates, Deactivates, serving, notice, dones, begun_by, begun_for}
use Rattle.relay_model.specs.Batch.{Batch, edits_by, edits_past}
use Rattle.relay_model.proofs.ActivationLaws.{Each, dones_by, dones_step, begun_step, dones_under, begun_within, dones_beyond, begun_beyond}
use Rattle.relay_model.proofs.BatchLaws.{edits_step, edits_new}
use Rattle.relay_core.specs.Machine.{State, no_edits, activated, updated, deactivated}
use Rattle.relay_core.specs.Stands.{StandsServed, count_from, count_since, edits_of, edits_since}

length_push : (xs : List ℕ) (x : ℕ) → length (xs ++ x ∷ []) ≡ length xs + 1
length_push [] x = refl
length_push (y ∷ ys) x = let k : length (ys ++ x ∷ []) ≡ length ys + 1 = length_push ys x in omega arith

count_push_by : (c : Bool) (n m : ℕ) → n ≡ m + 1 → (if c then n + 1 else n) ≡ (if c then m + 1 else m) + 1
count_push_by true n m e = omega arith
count_push_by false n m e = e

count_from_push : (b n : ℕ) (ds : List ℕ) → b ≤ n → count_from b (ds ++ n ∷ []) ≡ count_from b ds + 1
count_from_push b n [] h = rw (le-leb b n h) refl
count_from_push b n (d ∷ ds) h =
    count_push_by (nat_le b d) (count_from b (ds ++ n ∷ [])) (count_from b ds) (count_from_push b n ds h)

count_from_beyond : (k : ℕ) (ds : List ℕ) → Each (λ x. x ≤ k) ds → count_from (k + 1) ds ≡ 0
count_from_beyond k [] h = refl
count_from_beyond k (d ∷ ds) h = rw (lt-leb (k + 1) d (let l = h.0 in omega arith)) (count_from_beyond k ds h.1)

count_from_new : (k : ℕ) (ds : List ℕ) → Each (λ x. x ≤ k) ds → count_from (k + 1) (ds ++ (k + 1) ∷ []) ≡ 1
count_from_new k ds h =
    let a : count_from (k + 1) (ds ++ (k + 1) ∷ []) ≡ count_from (k + 1) ds + 1 =
    count_from_push (k + 1) (k + 1) ds (omega arith) in
    let b : count_from (k + 1) ds ≡ 0 = count_from_beyond k ds h in
    omega arith

-- what the relay keeps after what an act says of the hold
abbrev pub notified : Option Notice → State → State
notified None s = s
notified (Some Activates) s = activated s
notified (Some Updates) s = updated s
notified (Some Deactivates) s = deactivated s

abbrev pub ServedIn : State → List Act → Type 0
ServedIn s log = StandsServed s.serving s.edits s.active s.dones s.since log

-- an act that leaves pending edits
abbrev pub LeavesEdits : Act → Type 0
LeavesEdits act = (m : ℕ) (rest : Batch) → edits_by act m rest ≡ rest

edits_kept : (act : Act) (log : List Act) (m : ℕ) (o : Option ℕ) → begun_for log m ≡ o → LeavesEdits act →
    edits_since log (Some m) o ≡ edits_since (act ∷ log) (Some m) o
edits_kept act log m None e k = refl
edits_kept act log m (Some b) e k =
    ap edits_of (sym (edits_step act log b m (begun_within log m b e) ∙ k m (edits_past b log m)))

since_more : (n : ℕ) (o : Option ℕ) (ds : List ℕ) (since : ℕ) → ((b : ℕ) → o ≡ Some b → b ≤ n) →
    since ≡ min (count_since o ds) (2 ^ 32) →
    (if is_some o then min (since + 1) (2 ^ 32) else since) ≡ min (count_since o (ds ++ n ∷ [])) (2 ^ 32)
since_more n None ds since h e = e
since_more n (Some b) ds since h e =
    let a : count_from b (ds ++ n ∷ []) ≡ count_from b ds + 1 = count_from_push b n ds (h b refl) in
    omega arith

begun_before : (log : List Act) (m b : ℕ) → begun_for log m ≡ Some b → b ≤ length log + 1
begun_before log m b e = let k : b ≤ length log = begun_within log m b e in omega arith

dones_more : (count n : ℕ) (ds : List ℕ) → count ≡ length ds % 2 ^ 32 →
    (count + 1) % 2 ^ 32 ≡ length (ds ++ n ∷ []) % 2 ^ 32
dones_more count n ds e = let k : length (ds ++ n ∷ []) ≡ length ds + 1 = length_push ds n in omega arith

-- nobody serves
pub served_none : (act : Act) (log : List Act) → serving (act ∷ log) ≡ None →
    StandsServed None no_edits false 0 0 (act ∷ log)
served_none act log e = record {
  serving_now = sym e;
  edits_now = rw e refl;
  active_now = rw e refl;
  dones_now = rw e refl;
  since_now = rw e refl;
}

served_by : (s : State) (act : Act) (log : List Act) (m : ℕ) (n : Option Notice) → serving log ≡ Some m →
    serving (act ∷ log) ≡ Some m →
    notice act log ≡ n → LeavesEdits act → s.serving ≡ Some m → s.edits ≡ edits_since log (Some m) (begun_for log m) →
    s.active ≡ is_some (begun_for log m) → s.dones ≡ length (dones log m) % 2 ^ 32 →
    s.since ≡ min (count_since (begun_for log m) (dones log m)) (2 ^ 32) → ServedIn (notified n s) (act ∷ log)
served_by s act log m None e l q k a b c d f =
    let begins : begun_for (act ∷ log) m ≡ begun_for log m =
    begun_step act log m l ∙ ap (λ o. begun_by (length log + 1) o (begun_for log m)) q in
    let told : dones (act ∷ log) m ≡ dones log m =
    dones_step act log m l ∙ ap (λ o. dones_by o (length log + 1) (dones log m)) q in
    record {
      serving_now = a ∙ sym l;
      edits_now = rw (l, begins) (b ∙ edits_kept act log m (begun_for log m) refl k);
      active_now = rw (l, begins) c;
      dones_now = rw (l, told) d;
      since_now = rw (l, begins, told) f;
    }
served_by s act log m (Some Activates) e l q k a b c d f =
    let begins : begun_for (act ∷ log) m ≡ Some (length log + 1) =
    begun_step act log m l ∙ ap (λ o. begun_by (length log + 1) o (begun_for log m)) q in
    let told : dones (act ∷ log) m ≡ dones log m ++ (length log + 1) ∷ [] =
    dones_step act log m l ∙ ap (λ o. dones_by o (length log + 1) (dones log m)) q in
    let one : count_from (length log + 1) (dones log m ++ (length log + 1) ∷ []) ≡ 1 =
    count_from_new (length log) (dones log m) (dones_under log m) in
    rw a record {
      serving_now = sym l;
      edits_now = rw (l, begins) (sym (ap edits_of (edits_new act log m)));
      active_now = rw (l, begins) refl;
      dones_now = rw (l, told) (dones_more s.dones (length log + 1) (dones log m) d);
      since_now = rw (l, begins, told, one) refl;
    }
served_by s act log m (Some Updates) e l q k a b c d f =
    let begins : begun_for (act ∷ log) m ≡ begun_for log m =
    begun_step act log m l ∙ ap (λ o. begun_by (length log + 1) o (begun_for log m)) q in
    let told : dones (act ∷ log) m ≡ dones log m ++ (length log + 1) ∷ [] =
    dones_step act log m l ∙ ap (λ o. dones_by o (length log + 1) (dones log m)) q in
    rw (a, c) record {
      serving_now = sym l;
      edits_now = rw (l, begins) (b ∙ edits_kept act log m (begun_for log m) refl k);
      active_now = rw (l, begins) refl;
      dones_now = rw (l, told) (dones_more s.dones (length log + 1) (dones log m) d);
      since_now = rw (l, begins, told)
          (since_more (length log + 1) (begun_for log m) (dones log m) s.since (begun_before log m) f);
    }
served_by s act log m (Some Deactivates) e l q k a b c d f =
    let begins : begun_for (act ∷ log) m ≡ None =
    begun_step act log m l ∙ ap (λ o. begun_by (length log + 1) o (begun_for log m)) q in
    let told : dones (act ∷ log) m ≡ dones log m ++ (length log + 1) ∷ [] =
    dones_step act log m l ∙ ap (λ o. dones_by o (length log + 1) (dones log m)) q in
    rw a record {
      serving_now = sym l;
      edits_now = rw (l, begins) refl;
      active_now = rw (l, begins) refl;
      dones_now = rw (l, told) (dones_more s.dones (length log + 1) (dones log m) d);
      since_now = rw (l, begins) refl;
    }

unserved_by : (s : State) (act : Act) (log : List Act) (n : Option Notice) → serving (act ∷ log) ≡ None →
    s.serving ≡ None →
    s.edits ≡ no_edits → s.active ≡ false → s.dones ≡ 0 → s.since ≡ 0 → ServedIn (notified n s) (act ∷ log)
unserved_by s act log None l a b c d f = rw (a, b, c, d, f) (served_none act log l)
unserved_by s act log (Some Activates) l a b c d f = rw (a, b, c, d, f) (served_none act log l)
unserved_by s act log (Some Updates) l a b c d f = rw (a, b, c, d, f) (served_none act log l)
unserved_by s act log (Some Deactivates) l a b c d f = rw (a, b, c, d, f) (served_none act log l)

served_of : (s : State) (act : Act) (log : List Act) (o : Option ℕ) (n : Option Notice) → serving log ≡ o →
    ServedIn s log →
    serving (act ∷ log) ≡ serving log → notice act log ≡ n → LeavesEdits act → ServedIn (notified n s) (act ∷ log)
served_of s act log None n e h l q k =
    unserved_by s act log n (l ∙ e) (h.serving_now ∙ e) (rw e at h.edits_now) (rw e at h.active_now)
    (rw e at h.dones_now) (rw e at h.since_now)
served_of s act log (Some m) n e h l q k =
    served_by s act log m n e (l ∙ e) q k (h.serving_now ∙ e) (rw e at h.edits_now) (rw e at h.active_now)
    (rw e at h.dones_now) (rw e at h.since_now)

-- after what the act says of the hold, where the same method serves
pub served_notified : (s : State) (act : Act) (log : List Act) (n : Option Notice) → ServedIn s log →
    serving (act ∷ log) ≡ serving log →
    notice act log ≡ n → LeavesEdits act → ServedIn (notified n s) (act ∷ log)
served_notified s act log n h l q k = served_of s act log (serving log) n refl h l q k

-- a method that the act made serves, and was told nothing yet
pub served_new : (act : Act) (log : List Act) → serving (act ∷ log) ≡ Some (length log + 1) → notice act log ≡ None →
    StandsServed (Some (length log + 1)) no_edits false 0 0 (act ∷ log)
served_new act log l q =
    let begins : begun_for (act ∷ log) (length log + 1) ≡ None =
    begun_step act log (length log + 1) l ∙ ap (λ o. begun_by (length log + 1) o (begun_for log (length log + 1))) q ∙
    begun_beyond log (length log + 1) (omega arith) in
    let told : dones (act ∷ log) (length log + 1) ≡ [] =
    dones_step act log (length log + 1) l ∙ ap (λ o. dones_by o (length log + 1) (dones log (length log + 1))) q ∙
    dones_beyond log (length log + 1) (omega arith) in
    record {
      serving_now = sym l;
      edits_now = rw (l, begins) refl;
      active_now = rw (l, begins) refl;
      dones_now = rw (l, told) refl;
      since_now = rw (l, begins) refl;
    }

-- or was told of its activation
pub served_activated : (act : Act) (log : List Act) → serving (act ∷ log) ≡ Some (length log + 1) →
    notice act log ≡ Some Activates →
    StandsServed (Some (length log + 1)) no_edits true 1 1 (act ∷ log)
served_activated act log l q =
    let begins : begun_for (act ∷ log) (length log + 1) ≡ Some (length log + 1) =
    begun_step act log (length log + 1) l ∙ ap (λ o. begun_by (length log + 1) o (begun_for log (length log + 1))) q in
    let told : dones (act ∷ log) (length log + 1) ≡ (length log + 1) ∷ [] =
    dones_step act log (length log + 1) l ∙ ap (λ o. dones_by o (length log + 1) (dones log (length log + 1))) q ∙
    ap (λ ds. ds ++ (length log + 1) ∷ []) (dones_beyond log (length log + 1) (omega arith)) in
    record {
      serving_now = sym l;
      edits_now = rw (l, begins) (sym (ap edits_of (edits_new act log (length log + 1))));
      active_now = rw (l, begins) refl;
      dones_now = rw (l, told) refl;
      since_now = rw (l, begins, told, le-leb (length log + 1) (length log + 1) (omega arith)) refl;
    }
