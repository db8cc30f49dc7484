-- What is told and what is heard, one piece behind the other.
use Rattle.std.proofs.Common.{◌≡◌, ℕ, ◌+◌, List, [], ◌++◌, drop, sym, ap, subst, ◌∙◌, append_assoc, append-nil, arith}
use Rattle.std.specs.List.{AllByRecursion}
use Rattle.std.proofs.lemmas.List.{append_cancel_left}
use Rattle.wl_wire.specs.Messages.{IsPartial, messages, bad_size}
use Rattle.wl_wire.proofs.FirstMessages.{part_tells}
use Rattle.audit_fields.specs.declared.compare.Compared.{Compared}
use Rattle.audit_fields.specs.Heard.{Heard, heard, dones, IsWell, IsLike}
use Rattle.audit_fields.specs.Passing.{IsPassed, IsCompared}
use Rattle.audit_fields.specs.Comparing.{Comparing, Follows, IsHeard}
use Rattle.audit_fields.specs.FromField.{from_field}
use Rattle.audit_fields.proofs.MessagesPassed.{none_passed, both_passed, heard_none, dones_none}
use Rattle.audit_fields.proofs.FieldMessageFirst.{from_empty, led, settled_by}
use Rattle.audit_fields.proofs.StreamsCompared.{each_both, each_right}

-- nothing was told and nothing sent
pub first_follows : (c : Comparing) → c.told ≡ [] → c.begun ≡ [] → Follows [] [] c
first_follows c told begun = record {
  gone = [];
  told_is = sym told;
  passed = [];
  sent_is = sym begun;
  hs = [];
  well = tt;
  number = 0;
  goes = none_passed;
  left = from_empty c.told told;
  count = 0;
  passes = none_passed;
  part = subst IsPartial (sym begun) (λ long. absurd (omega (arith, long)));
}

-- of what is told a front is gone, which says this
record IsGone (told left : List ℕ) (hs : List Heard) : Type 0 where
  gone : List ℕ
  is : told ≡ gone ++ left
  number : ℕ
  goes : IsPassed gone hs number

-- and what stands before the next field message goes with it
passed_on : (told left : List ℕ) (hs : List Heard) → IsGone told left hs → IsGone told (from_field left) hs
passed_on told left hs g =
    let l = led left in
    record {
      gone = g.gone ++ l.front;
      is =
          g.is ∙ ap (λ (x : List ℕ). g.gone ++ x) l.is ∙ sym (append_assoc g.gone l.front (from_field left));
      number = g.number + l.count;
      goes =
          subst (λ (x : List Heard). IsPassed (g.gone ++ l.front) x (g.number + l.count)) (append-nil hs)
          (both_passed g.gone l.front hs [] g.number l.count g.goes l.passed);
    }

-- more is told
pub told_more : (told sent more : List ℕ) (before after : Comparing) → Follows told sent before →
    after ≡ record before { told = from_field (before.told ++ more) } → Follows (told ++ more) sent after
told_more told sent more before after f is =
    let g : IsGone (told ++ more) (before.told ++ more) f.hs =
    record {
      gone = f.gone;
      is = ap (λ (l : List ℕ). l ++ more) f.told_is ∙ append_assoc f.gone before.told more;
      number = f.number;
      goes = f.goes;
    } in
    let all = passed_on (told ++ more) (before.told ++ more) f.hs g in
    subst (Follows (told ++ more) sent) (sym is) (record {
      gone = all.gone;
      told_is = all.is;
      passed = f.passed;
      sent_is = f.sent_is;
      hs = f.hs;
      well = f.well;
      number = all.number;
      goes = all.goes;
      left = (led (before.told ++ more)).settled;
      count = f.count;
      passes = f.passes;
      part = f.part;
    })

-- what was sent, with a piece more, as its part that is passed and the rest
with_piece : (told sent piece : List ℕ) (c : Comparing) (f : Follows told sent c) →
    sent ++ piece ≡ f.passed ++ (c.begun ++ piece)
with_piece told sent piece c f =
    ap (λ (l : List ℕ). l ++ piece) f.sent_is ∙ append_assoc f.passed c.begun piece

-- a piece whose messages are what is told
pub heard_more : (told sent piece bytes : List ℕ) (before after : Comparing) (c : Compared) → Follows told sent before →
    bytes ≡ before.begun ++ piece → IsCompared before.told bytes c →
    after.told ≡ from_field (drop c.told before.told) →
    after.begun ≡ drop c.sent bytes → IsHeard told sent piece c.dones after
heard_more told sent piece bytes before after c f all k left begun =
    let x = k.sent-past in
    let y = k.told-past.past in
    let hs : List Heard = f.hs ++ k.hs in
    let well : AllByRecursion IsWell hs = each_both f.hs k.hs f.well k.well in
    let passes : IsPassed (f.passed ++ x.front) hs (f.count + c.dones) =
    both_passed f.passed x.front f.hs k.hs f.count c.dones f.passes x.passed in
    let g : IsGone told (drop c.told before.told) hs =
    record {
      gone = f.gone ++ y.front;
      is =
          f.told_is ∙ ap (λ (l : List ℕ). f.gone ++ l) y.is
          ∙ sym (append_assoc f.gone y.front (drop c.told before.told));
      number = f.number + k.told-past.count;
      goes = both_passed f.gone y.front f.hs k.hs f.number k.told-past.count f.goes y.passed;
    } in
    let all-gone = passed_on told (drop c.told before.told) hs g in
    let told-is : told ≡ all-gone.gone ++ after.told =
    all-gone.is ∙ ap (λ (l : List ℕ). all-gone.gone ++ l) (sym left) in
    let part : IsPartial after.begun = subst IsPartial (sym begun) k.part in
    let sent-is : sent ++ piece ≡ (f.passed ++ x.front) ++ after.begun =
    with_piece told sent piece before f ∙ ap (λ (l : List ℕ). f.passed ++ l) (sym all ∙ x.is)
    ∙ sym (append_assoc f.passed x.front (drop c.sent bytes))
    ∙ ap (λ (l : List ℕ). (f.passed ++ x.front) ++ l) (sym begun) in
    let none : messages after.begun ≡ [] = (part_tells after.begun part).0 in
    let said : heard (sent ++ piece) ≡ hs =
    ap heard sent-is ∙ passes.says after.begun ∙ ap (λ (l : List Heard). hs ++ l) (heard_none after.begun none)
    ∙ append-nil hs in
    let before_dones : dones sent ≡ f.count =
    ap dones f.sent_is ∙ f.passes.counts before.begun
    ∙ ap (λ n. f.count + n) (dones_none before.begun (part_tells before.begun f.part).0) ∙ omega arith in
    record {
      like = record {
        sized = ap bad_size sent-is ∙ passes.sized after.begun ∙ (part_tells after.begun part).1;
        well = subst (AllByRecursion IsWell) (sym said) well;
        rest = heard after.told;
        front =
            ap heard told-is ∙ all-gone.goes.says after.told
            ∙ ap (λ (l : List Heard). l ++ heard after.told) (sym said);
      };
      follows = record {
        gone = all-gone.gone;
        told_is = told-is;
        passed = f.passed ++ x.front;
        sent_is = sent-is;
        hs = hs;
        well = well;
        number = all-gone.number;
        goes = all-gone.goes;
        left = settled_by (drop c.told before.told) after.told left;
        count = f.count + c.dones;
        passes = passes;
        part = part;
      };
      counted =
          ap dones sent-is ∙ passes.counts after.begun
          ∙ ap (λ n. f.count + c.dones + n) (dones_none after.begun none)
          ∙ (let was = before_dones in omega arith);
    }

-- a piece that is unlike
pub unheard : (told sent piece bytes : List ℕ) (before : Comparing) → Follows told sent before →
    bytes ≡ before.begun ++ piece → (IsLike before.told bytes → ⊥) → IsLike told (sent ++ piece) → ⊥
unheard told sent piece bytes before f all none like =
    let sent-is : sent ++ piece ≡ f.passed ++ bytes =
    with_piece told sent piece before f ∙ ap (λ (l : List ℕ). f.passed ++ l) (sym all) in
    let said : heard (sent ++ piece) ≡ f.hs ++ heard bytes = ap heard sent-is ∙ f.passes.says bytes in
    let tells : heard told ≡ f.hs ++ heard before.told = ap heard f.told_is ∙ f.goes.says before.told in
    none (record {
      sized = sym (f.passes.sized bytes) ∙ ap bad_size (sym sent-is) ∙ like.sized;
      well = each_right f.hs (heard bytes) (subst (AllByRecursion IsWell) said like.well);
      rest = like.rest;
      front =
          append_cancel_left f.hs (heard before.told) (heard bytes ++ like.rest)
          (sym tells ∙ like.front ∙ ap (λ (l : List Heard). l ++ like.rest) said
          ∙ append_assoc f.hs (heard bytes) like.rest);
    })
