-- One job after the other begins
use Rattle.std.proofs.Common.{◌≡◌, ◌+◌, ◌++◌, [], ◌∷◌, ℕ, zero, suc, List, refl, sym, ap, ap₂, subst, ◌∙◌, arith, add-one, append_assoc}
use Rattle.hub_lock.specs.Passes.{HubId}
use Rattle.trial_run.specs.declared.typist.TrialTypist.{TrialTypist}
use Rattle.trial_script.specs.declared.action.Action.{Action}
use Rattle.trial_threads.specs.declared.running.Running.{Running}
use Rattle.trial_threads.specs.Users.{Part, of_field, edits_in, fields_from}
use Rattle.trial_threads.specs.Jobs.{IsIdle, TypesAs, parts_in, part_of}
use Rattle.trial_threads.specs.BegunJobs.{HaveBegun, IsPut}
use Rattle.trial_threads.proofs.JobsListed.{all_both}

parts_more : (rs : List Running) (r : Running) → parts_in (rs ++ r ∷ []) ≡ parts_in rs ++ part_of r.job ∷ []
parts_more [] r = refl
parts_more (x ∷ rs) r = ap (λ (ps : List Part). part_of x.job ∷ ps) (parts_more rs r)

pub have_none : (hub : HubId) (typist : TrialTypist) → HaveBegun hub typist [] []
have_none hub typist = record { idle = tt; types = tt; users = refl }

pub have_more : (hub : HubId) (typist : TrialTypist) (parts : List Part) (part : Part) (rs rs' : List Running) →
    HaveBegun hub typist parts rs → IsPut hub typist part rs rs' → HaveBegun hub typist (parts ++ part ∷ []) rs'
have_more hub typist parts part rs rs' h p = subst (λ (l : List Running). HaveBegun hub typist (parts ++ part ∷ []) l)
    (sym p.put) (record {
      idle = all_both (IsIdle hub) rs (p.job ∷ []) h.idle (p.idle, tt);
      types = all_both (λ (r : Running). TypesAs typist r.job) rs (p.job ∷ []) h.types (p.types, tt);
      users = parts_more rs p.job ∙ ap₂ (λ (ps : List Part) (q : Part). ps ++ q ∷ []) h.users p.user;
    })

-- the parts of the fields, in order

fields_more : (n k : ℕ) (all : List Action) →
    fields_from n (suc k) all ≡ fields_from n k all ++ of_field (edits_in (n + k) all) ∷ []
fields_more n zero all = ap (λ (m : ℕ). of_field (edits_in m all) ∷ []) (omega arith)
fields_more n (suc k) all = ap (λ (ps : List Part). of_field (edits_in n all) ∷ ps)
    (fields_more (n + 1) k all
    ∙ ap (λ (m : ℕ). fields_from (n + 1) k all ++ of_field (edits_in m all) ∷ []) (omega arith))

pub one_field : (hub : HubId) (typist : TrialTypist) (parts : List Part) (k : ℕ) (all : List Action)
    (rs rs' : List Running) → HaveBegun hub typist (parts ++ fields_from 1 k all) rs →
    IsPut hub typist (of_field (edits_in (k + 1) all)) rs rs' →
    HaveBegun hub typist (parts ++ fields_from 1 (k + 1) all) rs'
one_field hub typist parts k all rs rs' h p =
    let same : fields_from 1 (k + 1) all ≡ fields_from 1 k all ++ of_field (edits_in (k + 1) all) ∷ [] =
    ap (λ (m : ℕ). fields_from 1 m all) (add-one k) ∙ fields_more 1 k all
    ∙ ap (λ (m : ℕ). fields_from 1 k all ++ of_field (edits_in m all) ∷ []) (omega arith) in
    subst (λ (ps : List Part). HaveBegun hub typist ps rs')
    (append_assoc parts (fields_from 1 k all) (of_field (edits_in (k + 1) all) ∷ [])
    ∙ ap (λ (ps : List Part). parts ++ ps) (sym same))
    (have_more hub typist (parts ++ fields_from 1 k all) (of_field (edits_in (k + 1) all)) rs rs' h p)
