-- Passes whose jobs weren't started come back, and make nothing more
use Rattle.std.proofs.Common.{◌≡◌, inl, ◌+◌, ◌≤◌, ◌++◌, ◌∷◌, [], ℕ, zero, suc, List, length, drop, refl, sym, ap, ◌∙◌, subst, arith}
use Rattle.broker_steps.specs.declared.limits.Limits.{Limits}
use Rattle.turn_lock.specs.Pairs.{own, NoneOf, HasSeen, IsIn}
use Rattle.turn_lock.proofs.PairsOfNumbers.{own-seen}
use Rattle.hub_lock.specs.Histories.{History}
use Rattle.hub_lock.specs.Passes.{HubId, PassSeat, steps_of}
use Rattle.serve_jobs.specs.Tags.{Part}
use Rattle.serve_jobs.specs.Tags.Part.{reader, writer, shell}
use Rattle.serve_run.specs.LinkJobs.{LinkedJob}
use Rattle.serve_run.specs.Unserved.{MadeBy, AreUnserved, pushed}
use Rattle.serve_run.specs.Started.{IsGivenBack, AreGivenBack}
use Rattle.serve_run.proofs.EndsKept.{end-seen}
use Rattle.serve_run.proofs.LawsKept.{seen_through}
use Rattle.serve_run.proofs.NumbersTaken.{in_before}

pub none_long : {A : Type 0} (xs : List A) → length xs ≡ 0 → xs ≡ []
none_long [] is = refl
none_long (x ∷ xs) is = absurd (omega arith)

-- a pass that made nothing
pub made_nothing : (h : History) (pass : PassSeat) → steps_of pass ≡ 0 → HasSeen h pass.number pass.seen
    → NoneOf pass.number h
made_nothing h pass fresh seen = own-seen h pass.seen pass.number seen ∙ none_long (own pass.number pass.seen) fresh

-- what they made stays all they made

made_stays : (limits : Limits) (before h : History) (n : ℕ) (part : Part) → HasSeen h n before →
    MadeBy limits before n part
    → MadeBy limits h n part
made_stays limits before h n reader grows made = record {
  pass = made.pass;
  number = made.number;
  seen = seen_through h before made.pass.seat.seen n grows made.seen;
  reads = made.reads;
  says = made.says;
  ended = end-seen limits h before n made.pass.peer grows made.ended;
}
made_stays limits before h n writer grows made = own-seen h before n grows ∙ made
made_stays limits before h n shell grows made = own-seen h before n grows ∙ made

pub unserved_stay : (limits : Limits) (before h : History) (taken : List ℕ) (jobs : List LinkedJob)
    → ((n : ℕ) → IsIn n (pushed jobs taken) → HasSeen h n before) → AreUnserved limits before jobs
    → AreUnserved limits h jobs
unserved_stay limits before h taken [] grows made = tt
unserved_stay limits before h taken (j ∷ jobs) grows made = (
  made_stays limits before h j.number j.part
      (grows j.number (in_before jobs (j.number ∷ taken) j.number (inl refl))) made.0,
  unserved_stay limits before h (j.number ∷ taken) jobs grows made.1,
)

pub none_back : (limits : Limits) (root after : PassSeat) (jobs : List LinkedJob) → jobs ≡ [] → after.taken ≡ root.taken
    → AreGivenBack limits root after jobs
none_back limits root after jobs none same =
    subst (AreGivenBack limits root after) (sym none) (record { taken = same; made = tt })

-- since an earlier moment
pub back_since : (limits : Limits) (first root after : PassSeat) (jobs : List LinkedJob) → root.taken ≡ first.taken
    → AreGivenBack limits root after jobs → AreGivenBack limits first after jobs
back_since limits first root after jobs same back = record {
  taken = back.taken ∙ ap (pushed jobs) same;
  made = back.made;
}

-- one came back
pub one_back : (hub : HubId) (root after : PassSeat) (j : LinkedJob) → IsGivenBack hub root after j.number
    → MadeBy hub.limits after.seen j.number j.part → AreGivenBack hub.limits root after (j ∷ [])
one_back hub root after j back made = record { taken = back.taken; made = (made, tt) }

-- two came back
pub two_back : (hub : HubId) (root middle after : PassSeat) (j k : LinkedJob) → IsGivenBack hub root middle j.number
    → MadeBy hub.limits middle.seen j.number j.part → IsGivenBack hub middle after k.number
    → MadeBy hub.limits after.seen k.number k.part → AreGivenBack hub.limits root after (j ∷ k ∷ [])
two_back hub root middle after j k first made then made2 =
    let here : IsIn j.number middle.taken = subst (IsIn j.number) (sym first.taken) (inl refl) in record {
      taken = then.taken ∙ ap (λ taken. k.number ∷ taken) first.taken;
      made = (
        made_stays hub.limits middle.seen after.seen j.number j.part (then.settled j.number here) made,
        (made2, tt),
      );
    }

-- behind the first of two lists

pub drop_past : {A : Type 0} (xs ys : List A) (n : ℕ) → drop (length xs + n) (xs ++ ys) ≡ drop n ys
drop_past [] ys n = let same : 0 + n ≡ n = omega arith in ap (λ k. drop k ys) same
drop_past (x ∷ xs) ys n =
    let same : length (x ∷ xs) + n ≡ suc (length xs + n) = omega arith in
    ap (λ k. drop k (x ∷ (xs ++ ys))) same ∙ drop_past xs ys n

pub drop_whole : {A : Type 0} (xs : List A) (n : ℕ) → length xs ≤ n → drop n xs ≡ []
drop_whole [] zero few = refl
drop_whole [] (suc n) few = refl
drop_whole (x ∷ xs) zero few = absurd (omega arith)
drop_whole (x ∷ xs) (suc n) few = drop_whole xs n (omega arith)
