-- Steps that are submitted one after the other
use Rattle.std.proofs.Common.{◌≡◌, ℕ, true, false, List, [], ◌∷◌, ◌++◌, length, drop, None, refl, sym, ap, ◌∙◌, subst, arith, append_assoc, append-nil}
use Rattle.std.specs.Prelude.{◌==◌, Result, Ok, Err}
use Rattle.std.proofs.lemmas.Bool.{eqb-true}
use Rattle.broker_steps.specs.declared.limits.Limits.{Limits}
use Rattle.wl_wire.specs.Messages.{id_of, opcode_of, body_of, bad_size_at, behind}
use Rattle.wl_wire.specs.Streams.{Assembly, begun, bytes_of}
use Rattle.broker_model.specs.declared.journal.Entry.{Entry}
use Rattle.broker_model.specs.declared.journal.Entry.TheVariants as entries
use Rattle.broker_cutter.specs.Steps.{steps_in}
use Rattle.broker_cutter.specs.Cuts.{IsFirst, IsUnfinished, IsLast}
use Rattle.desc_frame.specs.Frames.{frame}
use Rattle.hub_lock.specs.Passes.{PeerPass}
use Rattle.hub_lock.specs.Calls.{pass_having_seen}
use Rattle.peer_link.specs.declared.ends.ReadEnd.{ReadEnd}
use Rattle.peer_link.specs.declared.ends.ReadEnd.TheVariants as ends
use Rattle.peer_link.specs.Made.{entries_by}
use Rattle.peer_link.specs.LinkSteps.{token_steps, steps_unless_bad, frame_steps}
use Rattle.peer_link.specs.Submits.{MadeFirst, Submits}

-- the pass is of the same peer
pub same-peer : (a b : PeerPass) → b ≡ pass_having_seen a b.seat.seen → b.peer ≡ a.peer
same-peer a b is = ap (λ (p : PeerPass). p.peer) is

-- what is made goes on from what was made before

pub first-of : (limits : Limits) (a b c : PeerPass) (before steps later all : List Entry) (end : ReadEnd)
    → entries_by b.seat ≡ entries_by a.seat ++ before → all ≡ before ++ (steps ++ later)
    → MadeFirst limits b c steps end → MadeFirst limits a c all end
first-of limits a b c before steps later all end made is m = record {
  made = before ++ m.made;
  e = m.e;
  more = m.more ++ later;
  steps_are = is ∙ ap (λ (es : List Entry). before ++ (es ++ later)) m.steps_are
      ∙ ap (λ (es : List Entry). before ++ es) (append_assoc m.made (m.e ∷ m.more) later)
      ∙ sym (append_assoc before m.made (m.e ∷ (m.more ++ later)));
  entries = m.entries ∙ ap (λ (es : List Entry). es ++ m.made) made ∙ append_assoc (entries_by a.seat) before m.made;
  why = m.why;
}

pub submits-both : {T : Type 0} (limits : Limits) (a b c : PeerPass) (xs ys : List Entry) (r : Result T ReadEnd)
    → entries_by b.seat ≡ entries_by a.seat ++ xs → Submits limits b c ys r → Submits limits a c (xs ++ ys) r
submits-both limits a b c xs ys (Ok done) first next =
    next ∙ ap (λ (es : List Entry). es ++ ys) first ∙ append_assoc (entries_by a.seat) xs ys
submits-both limits a b c xs ys (Err end) first next =
    first-of limits a b c xs ys [] (xs ++ ys) end first (ap (λ (es : List Entry). xs ++ es) (sym (append-nil ys))) next

-- nothing was made of the first step
pub made-none : (limits : Limits) (a b : PeerPass) (e : Entry) → b ≡ a → MadeFirst limits a b (e ∷ []) ends.NoMemory
made-none limits a b e same = record {
  made = [];
  e = e;
  more = [];
  steps_are = refl;
  entries = ap (λ (p : PeerPass). entries_by p.seat) same ∙ sym (append-nil (entries_by a.seat));
  why = tt;
}

-- the way through a piece

-- what was made so far, and that what is left gives the rest
pub record OnWay (q : ℕ) (first now : List ℕ) (a b : PeerPass) : Type 0 where
  pub made : List Entry
  pub entries : entries_by b.seat ≡ entries_by a.seat ++ made
  pub steps : steps_in q first ≡ made ++ steps_in q now
  pub behind_same : behind first ≡ behind now

pub way-begins : (q : ℕ) (bytes : List ℕ) (a : PeerPass) → OnWay q bytes bytes a a
way-begins q bytes a =
    record { made = []; entries = sym (append-nil (entries_by a.seat)); steps = refl; behind_same = refl }

pub way-goes : (q : ℕ) (first : List ℕ) (a b c : PeerPass) (waiting left piece more body : List ℕ) (id opcode used : ℕ)
    → b.peer ≡ q → OnWay q first (waiting ++ piece) a b → IsFirst id opcode body (waiting ++ piece) piece used left
    → more ≡ drop used piece → entries_by c.seat ≡ entries_by b.seat ++ entries.Message b.peer id opcode body ∷ []
    → OnWay q first (left ++ more) a c
way-goes q first a b c waiting left piece more body id opcode used peer w i is made =
    let e : Entry = entries.Message q id opcode body in
    let now : left ++ more ≡ drop used piece = ap (λ (l : List ℕ). l ++ more) i.none_left ∙ is in record {
      made = w.made ++ e ∷ [];
      entries = made ∙ ap (λ n. entries_by b.seat ++ entries.Message n id opcode body ∷ []) peer
          ∙ ap (λ (es : List Entry). es ++ e ∷ []) w.entries ∙ append_assoc (entries_by a.seat) w.made (e ∷ []);
      steps = w.steps ∙ ap (λ (es : List Entry). w.made ++ es) (i.steps q)
          ∙ ap (λ (bytes : List ℕ). w.made ++ e ∷ steps_in q bytes) (sym now)
          ∙ sym (append_assoc w.made (e ∷ []) (steps_in q (left ++ more)));
      behind_same = w.behind_same ∙ i.behind_same ∙ ap (λ (bytes : List ℕ). behind bytes) (sym now);
    }

pub way-stops : (limits : Limits) (q : ℕ) (first : List ℕ) (a b c : PeerPass) (waiting left piece body : List ℕ)
    (id opcode used : ℕ) (end : ReadEnd) → b.peer ≡ q → OnWay q first (waiting ++ piece) a b
    → IsFirst id opcode body (waiting ++ piece) piece used left
    → MadeFirst limits b c (entries.Message b.peer id opcode body ∷ []) end →
    MadeFirst limits a c (steps_in q first) end
way-stops limits q first a b c waiting left piece body id opcode used end peer w i m =
    first-of limits a b c w.made (entries.Message q id opcode body ∷ []) (steps_in q (drop used piece))
    (steps_in q first) end
    w.entries (w.steps ∙ ap (λ (es : List Entry). w.made ++ es) (i.steps q))
    (subst (λ n. MadeFirst limits b c (entries.Message n id opcode body ∷ []) end) peer m)

pub record IsThrough (q : ℕ) (first waiting : List ℕ) (a b : PeerPass) : Type 0 where
  pub made : entries_by b.seat ≡ entries_by a.seat ++ steps_in q first
  pub waiting_is : waiting ≡ behind first
  pub good : bad_size_at waiting ≡ None

pub way-ends : (q : ℕ) (first : List ℕ) (a b : PeerPass) (bytes left : List ℕ)
    → OnWay q first bytes a b → IsUnfinished bytes left → IsThrough q first left a b
way-ends q first a b bytes left w i = record {
  made = w.entries ∙ ap (λ (es : List Entry). entries_by a.seat ++ es)
      (sym (w.steps ∙ ap (λ (es : List Entry). w.made ++ es) (i.steps q) ∙ append-nil w.made));
  waiting_is = i.all_left ∙ sym (w.behind_same ∙ i.all_behind);
  good = ap bad_size_at i.all_left ∙ i.good;
}

pub way-bad : {left : List ℕ} (q : ℕ) (first : List ℕ) (a b c : PeerPass) (bytes head : List ℕ)
    → b.peer ≡ q → OnWay q first bytes a b → IsLast head bytes left
    → entries_by c.seat ≡ entries_by b.seat ++ entries.BadSize b.peer head ∷ []
    → entries_by c.seat ≡ entries_by a.seat ++ steps_in q first
way-bad q first a b c bytes head peer w l made =
    let e : Entry = entries.BadSize q head in
    made ∙ ap (λ n. entries_by b.seat ++ entries.BadSize n head ∷ []) peer
    ∙ ap (λ (es : List Entry). es ++ e ∷ []) w.entries
    ∙ append_assoc (entries_by a.seat) w.made (e ∷ [])
    ∙ ap (λ (es : List Entry). entries_by a.seat ++ es)
    (sym (w.steps ∙ ap (λ (es : List Entry). w.made ++ es) (l.steps q)))

pub way-bad-stops : {left : List ℕ} (limits : Limits) (q : ℕ) (first : List ℕ) (a b c : PeerPass)
    (bytes head : List ℕ) (end : ReadEnd) → b.peer ≡ q → OnWay q first bytes a b → IsLast head bytes left
    → MadeFirst limits b c (entries.BadSize b.peer head ∷ []) end → MadeFirst limits a c (steps_in q first) end
way-bad-stops limits q first a b c bytes head end peer w l m =
    first-of limits a b c w.made (entries.BadSize q head ∷ []) [] (steps_in q first) end w.entries
    (w.steps ∙ ap (λ (es : List Entry). w.made ++ es) (l.steps q))
    (subst (λ n. MadeFirst limits b c (entries.BadSize n head ∷ []) end) peer m)

-- a message that was held is the first of the bytes by its parts
pub held-first : {id opcode used : ℕ} {body bytes piece : List ℕ} (new : Assembly) → id ≡ id_of (bytes_of new)
    → opcode ≡ opcode_of (bytes_of new) → body ≡ body_of (bytes_of new)
    → IsFirst (id_of (bytes_of new)) (opcode_of (bytes_of new)) (body_of (bytes_of new)) bytes piece used (begun new)
    → IsFirst id opcode body bytes piece used (begun new)
held-first new i o b f = rw (i, o, b) f

-- a frame's tokens

pub tokens-none : (q : ℕ) (tokens : List ℕ) → (length tokens == 0) ≡ true → token_steps q tokens ≡ []
tokens-none q [] e = refl
tokens-none q (x ∷ tokens) e = let none = eqb-true (length (x ∷ tokens)) 0 e in absurd (omega arith)

pub tokens-some : (q : ℕ) (tokens : List ℕ) → (length tokens == 0) ≡ false →
    token_steps q tokens ≡ entries.Tokens q tokens ∷ []
tokens-some q [] e = absurd (cc)
tokens-some q (x ∷ tokens) e = refl

-- a frame's steps, where no bad size stands before
pub frame-is : (q : ℕ) (waiting bytes tokens : List ℕ) → bad_size_at waiting ≡ None
    → frame_steps q waiting (frame bytes tokens) ≡ token_steps q tokens ++ steps_in q (waiting ++ bytes)
frame-is q waiting bytes tokens good = ap (λ o. token_steps q tokens ++ steps_unless_bad q o (waiting ++ bytes)) good

pub frame-stops : (limits : Limits) (a b : PeerPass) (waiting bytes tokens : List ℕ) (end : ReadEnd) →
    bad_size_at waiting ≡ None
    → MadeFirst limits a b (token_steps a.peer tokens) end →
    MadeFirst limits a b (frame_steps a.peer waiting (frame bytes tokens)) end
frame-stops limits a b waiting bytes tokens end good m =
    first-of limits a a b [] (token_steps a.peer tokens) (steps_in a.peer (waiting ++ bytes))
    (frame_steps a.peer waiting (frame bytes tokens)) end (sym (append-nil (entries_by a.seat)))
    (frame-is a.peer waiting bytes tokens good) m

pub frame-made : {T : Type 0} (limits : Limits) (a b c : PeerPass) (waiting bytes tokens : List ℕ)
    (r : Result T ReadEnd)
    → bad_size_at waiting ≡ None → b ≡ pass_having_seen a b.seat.seen
    → entries_by b.seat ≡ entries_by a.seat ++ token_steps a.peer tokens →
    Submits limits b c (steps_in b.peer (waiting ++ bytes)) r
    → Submits limits a c (frame_steps a.peer waiting (frame bytes tokens)) r
frame-made limits a b c waiting bytes tokens r good is made next =
    subst (λ (es : List Entry). Submits limits a c es r) (sym (frame-is a.peer waiting bytes tokens good))
    (submits-both limits a b c (token_steps a.peer tokens) (steps_in a.peer (waiting ++ bytes)) r made
    (subst (λ q. Submits limits b c (steps_in q (waiting ++ bytes)) r) (same-peer a b is) next))
