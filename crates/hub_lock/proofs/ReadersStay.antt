-- The readers of those that joined stay, whatever is added behind
use Rattle.std.proofs.Common.{◌≡◌, ℕ, zero, suc, ◌+◌, ◌<◌, ◌≤◌, List, [], ◌∷◌, ◌++◌, length, Option, Some, None, refl, ap, sym, ◌∙◌, arith, append_assoc, length-append}
use Rattle.std.specs.Prelude.{if◌then◌else◌, option_map}
use Rattle.std.specs.List.{slice_get}
use Rattle.relay_model.specs.declared.act.EndCause.TheVariants.{Gone, Bad, Full}
use Rattle.broker_steps.specs.declared.stamp.Stamp.{Stamp}
use Rattle.broker_model.specs.declared.journal.Entry.{Entry}
use Rattle.broker_model.specs.declared.journal.Entry.TheVariants as entries
use Rattle.broker_model.specs.Resolve.{past_of}
use Rattle.broker_model.specs.Stamps.{follows}
use Rattle.hub_lock.specs.declared.step.OuterStep.{OuterStep}
use Rattle.hub_lock.specs.Histories.{History, reader_in, readers_of, numbered_in, reader_of, writer_of, step_after, steps_in}
use Rattle.hub_lock.specs.Lawful.{IsMadeBy, AreMadeBy}

pub get-front : {A : Type 0} (xs ys : List A) (k : ℕ) → k < length xs → slice_get (xs ++ ys) k ≡ slice_get xs k
get-front [] ys k l = absurd (omega arith)
get-front (x ∷ xs) ys zero l = refl
get-front (x ∷ xs) ys (suc k) l = get-front xs ys k (omega arith)

pub get-found : {A : Type 0} (xs ys : List A) (k : ℕ) (x : A) → slice_get xs k ≡ Some x →
    slice_get (xs ++ ys) k ≡ Some x
get-found [] ys k x e = cc
get-found (z ∷ xs) ys zero x e = e
get-found (z ∷ xs) ys (suc k) x e = get-found xs ys k x e

pub get-end : {A : Type 0} (xs : List A) (x : A) → slice_get (xs ++ x ∷ []) (length xs) ≡ Some x
get-end [] x = refl
get-end (z ∷ xs) x = get-end xs x

-- those of a longer history begin with those of the one before

pub readers-append : (a b : History) → readers_of (a ++ b) ≡ readers_of a ++ readers_of b
readers-append [] b = refl
readers-append (s ∷ a) b =
    ap (λ rs. reader_in s.1.reader ++ rs) (readers-append a b)
    ∙ sym (append_assoc (reader_in s.1.reader) (readers_of a) (readers_of b))

numbered-found : (xs ys : List ℕ) (q n : ℕ) → numbered_in xs q ≡ Some n → numbered_in (xs ++ ys) q ≡ Some n
numbered-found xs ys zero n e = cc
numbered-found xs ys (suc k) n e = get-found xs ys k n e

pub reader-stays : (a b : History) (q n : ℕ) → reader_of a q ≡ Some n → reader_of (a ++ b) q ≡ Some n
reader-stays a b q n e =
    ap (λ rs. numbered_in rs q) (readers-append a b) ∙ numbered-found (readers_of a) (readers_of b) q n e

writer-by : (x y : Option ℕ) (n : ℕ) → ((m : ℕ) → x ≡ Some m → y ≡ Some m) → option_map (λ r. r + 1) x ≡ Some n →
    option_map (λ r. r + 1) y ≡ Some n
writer-by None y n k e = cc
writer-by (Some m) y n k e = ap (option_map (λ r. r + 1)) (k m refl) ∙ e

pub writer-stays : (a b : History) (q n : ℕ) → writer_of a q ≡ Some n → writer_of (a ++ b) q ≡ Some n
writer-stays a b q n e = writer-by (reader_of a q) (reader_of (a ++ b) q) n (λ m. reader-stays a b q m) e

-- so each step stays made by whose it is

made-stays : (h more : History) (n : ℕ) (e : Entry) → IsMadeBy h n e → IsMadeBy (h ++ more) n e
made-stays h more n (entries.Join role) m = m
made-stays h more n (entries.Message q id opcode body) m = reader-stays h more q n m
made-stays h more n (entries.Tokens q tokens) m = reader-stays h more q n m
made-stays h more n (entries.BadSize q head) m = reader-stays h more q n m
made-stays h more n (entries.End q Gone) m = reader-stays h more q n m
made-stays h more n (entries.End q Bad) m = m
made-stays h more n (entries.End q Full) m = m
made-stays h more n (entries.Shell step) m = m
made-stays h more n (entries.Took q bytes) m = (writer-stays h more q n m.0, m.1)

all-stay : (h more xs : History) → AreMadeBy h xs → AreMadeBy (h ++ more) xs
all-stay h more [] m = tt
all-stay h more (s ∷ xs) m = (made-stays h more s.0 s.1.entry m.0, all-stay h more xs m.1)

all-and : (h xs : History) (n : ℕ) (s : OuterStep) → AreMadeBy h xs → IsMadeBy h n s.entry →
    AreMadeBy h (xs ++ (n, s) ∷ [])
all-and h [] n s m one = (one, tt)
all-and h (x ∷ xs) n s m one = (m.0, all-and h xs n s m.1 one)

pub made-more : (h : History) (n : ℕ) (s : OuterStep) → AreMadeBy h h → IsMadeBy h n s.entry
    → AreMadeBy (h ++ (n, s) ∷ []) (h ++ (n, s) ∷ [])
made-more h n s m one =
    let now : History = h ++ (n, s) ∷ [] in
    all-and now h n s (all-stay h ((n, s) ∷ []) h m) (made-stays h ((n, s) ∷ []) n s.entry one)

-- a journal's steps are the same with one reader more

pub joined-grows : (e : Entry) (older : List Entry) →
    length (past_of older).joined ≤ length (past_of (e ∷ older)).joined
joined-grows (entries.Join role) older =
    omega (arith, length-append (past_of older).joined (record { label = length older + 1; role = role } ∷ []))
joined-grows (entries.Message q id opcode body) older = omega arith
joined-grows (entries.Tokens q tokens) older = omega arith
joined-grows (entries.BadSize q head) older = omega arith
joined-grows (entries.End q cause) older = omega arith
joined-grows (entries.Shell step) older = omega arith
joined-grows (entries.Took q bytes) older = omega arith

step-same : (readers : List ℕ) (r : ℕ) (older : List Entry) (e : Entry) →
    length (past_of (e ∷ older)).joined ≤ length readers
    → step_after (readers ++ r ∷ []) older e ≡ step_after readers older e
step-same readers r older (entries.Join role) few =
    let one = length-append (past_of older).joined (record { label = length older + 1; role = role } ∷ []) in
    ap (λ (x : Option ℕ). record { entry = entries.Join role; reader = x })
    (get-front readers (r ∷ []) (length (past_of older).joined) (omega arith))
step-same readers r older (entries.Message q id opcode body) few = refl
step-same readers r older (entries.Tokens q tokens) few = refl
step-same readers r older (entries.BadSize q head) few = refl
step-same readers r older (entries.End q cause) few = refl
step-same readers r older (entries.Shell step) few = refl
step-same readers r older (entries.Took q bytes) few = refl

pub steps-same : (readers : List ℕ) (r : ℕ) (journal : List Entry) (ss : List Stamp) →
    length (past_of journal).joined ≤ length readers
    → steps_in (readers ++ r ∷ []) journal ss ≡ steps_in readers journal ss
steps-same readers r [] ss few = refl
steps-same readers r (e ∷ older) [] few = refl
steps-same readers r (e ∷ older) (s ∷ before) few =
    let less = joined-grows e older in
    let rest : steps_in (readers ++ r ∷ []) older before ≡ steps_in readers older before =
    steps-same readers r older before (omega arith) in
    ap (λ (h : History). if follows e then h else h ++ (s.author, step_after (readers ++ r ∷ []) older e) ∷ []) rest
    ∙ ap (λ (x : OuterStep). if follows e then steps_in readers older before
    else steps_in readers older before ++ (s.author, x) ∷ [])
    (step-same readers r older e few)
