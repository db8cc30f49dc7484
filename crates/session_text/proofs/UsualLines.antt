-- A line of a name and words that spell numbers and texts is read as what they spell.
use Rattle.std.proofs.Common.{◌≡◌, ℕ, ℤ, ◌==◌, true, List, [], ◌∷◌, ◌++◌, Option, Some, refl, ap, ◌∙◌, arith}
use Rattle.std.specs.Prelude.{codes}
use Rattle.std.specs.List.{slice_split}
use Rattle.std.proofs.lemmas.List.Splits.{slice_split_at}
use Rattle.relay_model.specs.declared.act.Act.{Act}
use Rattle.relay_model.specs.declared.act.Act.TheVariants as acts
use Rattle.broker_steps.specs.Ranges.{piece_limit}
use Rattle.broker_steps.specs.declared.step.ShellStep.TheVariants as shells
use Rattle.session_text.specs.declared.line.Form.TheVariants.{Acts, Session}
use Rattle.session_text.specs.declared.line.Line.{Line}
use Rattle.session_text.specs.declared.line.Line.TheVariants as lines
use Rattle.session_text.specs.declared.line.SessionLine.TheVariants as sessions
use Rattle.session_text.specs.Reading.{line_of_words, two_words, three_words, four_words, five_words}
use Rattle.session_text.specs.SessionReading.{three_session_words, three_shell_words}
use Rattle.session_text.specs.Words.{◌>>=◌, text_limit, cursor_text_limit, number_of, signed_of, state_of, text_of, count_of}
use Rattle.session_text.proofs.LinesSplit.{lacks, lacks_all, split_join}
use Rattle.session_text.proofs.WordKinds.{Kind, numbers, signeds, states, texts, counts}

-- what stands behind a name and its space
pub behind_name : (name rest line : List ℕ) → line ≡ name ++ 32 ∷ rest → lacks 32 name ≡ true →
    slice_split (λ b. b == 32) line ≡ name ∷ slice_split (λ b. b == 32) rest
behind_name name rest line is clean =
    ap (slice_split (λ b. b == 32)) is ∙ slice_split_at (λ b. b == 32) name 32 rest (lacks_all 32 name clean) refl

-- a word that is read has no space
alone : {A : Type 0} {read : List ℕ → Option A} {spell : A → List ℕ} {Is : A → Type 0} {most : ℕ} →
    Kind read spell Is most
    → (word : List ℕ) (x : A) → read word ≡ Some x → slice_split (λ b. b == 32) word ≡ word ∷ []
alone {A} {read} {spell} {Is} {most} kind word x e =
    let known = kind.sound word x e in rw (known.1) (split_join (spell x) [] (kind.spaceless x known.0) tt)

-- ---- acts

abbrev as_line : Option Act → Option Line
as_line o = o >>= (λ act. Some (lines.Act act))

commit_words : (a : List ℕ) (n : ℕ) → number_of a ≡ Some n → two_words (codes "commit") a ≡ Some (acts.Commit n)
unfolding two_words
commit_words a n e = rw e refl

pub commit_read : (rest : List ℕ) (n : ℕ) → number_of rest ≡ Some n
    → line_of_words Acts (codes "commit" ∷ slice_split (λ b. b == 32) rest) ≡ Some (lines.Act (acts.Commit n))
commit_read rest n e = rw (alone numbers rest n e) (ap as_line (commit_words rest n e))

enable_words : (a : List ℕ) (n : ℕ) → number_of a ≡ Some n → two_words (codes "enable") a ≡ Some (acts.Enable n)
unfolding two_words
enable_words a n e = rw e refl

pub enable_read : (rest : List ℕ) (n : ℕ) → number_of rest ≡ Some n
    → line_of_words Acts (codes "enable" ∷ slice_split (λ b. b == 32) rest) ≡ Some (lines.Act (acts.Enable n))
enable_read rest n e = rw (alone numbers rest n e) (ap as_line (enable_words rest n e))

done_words : (a b : List ℕ) (m s : ℕ) → number_of a ≡ Some m → number_of b ≡ Some s →
    three_words (codes "mcommit") a b ≡ Some (acts.MCommit m s)
unfolding three_words
done_words a b m s e f = rw (e, f) refl

pub done_read : (rest a b : List ℕ) (m s : ℕ) → slice_split (λ b. b == 32) rest ≡ a ∷ slice_split (λ b. b == 32) b →
    number_of a ≡ Some m → number_of b ≡ Some s
    → line_of_words Acts (codes "mcommit" ∷ slice_split (λ b. b == 32) rest) ≡ Some (lines.Act (acts.MCommit m s))
done_read rest a b m s cut e f = rw (cut, alone numbers b s f) (ap as_line (done_words a b m s e f))

string_words : (a b : List ℕ) (m : ℕ) (text : List ℕ) → number_of a ≡ Some m → text_of text_limit b ≡ Some text →
    three_words (codes "mstring") a b ≡ Some (acts.MString m text)
unfolding three_words
string_words a b m text e f = rw (e, f) refl

pub string_read : (rest a b : List ℕ) (m : ℕ) (text : List ℕ) →
    slice_split (λ b. b == 32) rest ≡ a ∷ slice_split (λ b. b == 32) b → number_of a ≡ Some m →
    text_of text_limit b ≡ Some text
    → line_of_words Acts (codes "mstring" ∷ slice_split (λ b. b == 32) rest) ≡ Some (lines.Act (acts.MString m text))
string_read rest a b m text cut e f =
    rw (cut, alone (texts text_limit) b text f) (ap as_line (string_words a b m text e f))

key_words : (a b c : List ℕ) (time key state : ℕ) → number_of a ≡ Some time → number_of b ≡ Some key →
    state_of c ≡ Some state
    → four_words (codes "key") a b c ≡ Some (acts.Key time key state)
unfolding four_words
key_words a b c time key state e f g = rw (e, f, g) refl

pub key_read : (rest behind a b c : List ℕ) (time key state : ℕ)
    → slice_split (λ b. b == 32) rest ≡ a ∷ slice_split (λ b. b == 32) behind →
    slice_split (λ b. b == 32) behind ≡ b ∷ slice_split (λ b. b == 32) c
    → number_of a ≡ Some time → number_of b ≡ Some key → state_of c ≡ Some state
    → line_of_words Acts (codes "key" ∷ slice_split (λ b. b == 32) rest) ≡ Some (lines.Act (acts.Key time key state))
key_read rest behind a b c time key state cut more e f g =
    rw (cut, more, alone states c state g) (ap as_line (key_words a b c time key state e f g))

around_words : (a b c d : List ℕ) (n : ℕ) (text : List ℕ) (cursor anchor : ℤ)
    → number_of a ≡ Some n → text_of cursor_text_limit b ≡ Some text → signed_of c ≡ Some cursor →
    signed_of d ≡ Some anchor
    → five_words (codes "surround") a b c d ≡ Some (acts.Surround n text cursor anchor)
unfolding five_words
around_words a b c d n text cursor anchor e f g h = rw (e, f, g, h) refl

pub around_read : (rest behind offsets a b c d : List ℕ) (n : ℕ) (text : List ℕ) (cursor anchor : ℤ)
    → slice_split (λ b. b == 32) rest ≡ a ∷ slice_split (λ b. b == 32) behind →
    slice_split (λ b. b == 32) behind ≡ b ∷ slice_split (λ b. b == 32) offsets
    → slice_split (λ b. b == 32) offsets ≡ c ∷ slice_split (λ b. b == 32) d
    → number_of a ≡ Some n → text_of cursor_text_limit b ≡ Some text → signed_of c ≡ Some cursor →
    signed_of d ≡ Some anchor
    → line_of_words Acts (codes "surround" ∷ slice_split (λ b. b == 32) rest) ≡
    Some (lines.Act (acts.Surround n text cursor anchor))
around_read rest behind offsets a b c d n text cursor anchor cut more last e f g h =
    rw (cut, more, last, alone signeds d anchor h) (ap as_line (around_words a b c d n text cursor anchor e f g h))

preedit_words : (a b c d : List ℕ) (n : ℕ) (text : List ℕ) (begin end : ℤ)
    → number_of a ≡ Some n → text_of cursor_text_limit b ≡ Some text → signed_of c ≡ Some begin → signed_of d ≡ Some end
    → five_words (codes "mpreedit") a b c d ≡ Some (acts.MPreedit n text begin end)
unfolding five_words
preedit_words a b c d n text begin end e f g h = rw (e, f, g, h) refl

pub preedit_read : (rest behind offsets a b c d : List ℕ) (n : ℕ) (text : List ℕ) (begin end : ℤ)
    → slice_split (λ b. b == 32) rest ≡ a ∷ slice_split (λ b. b == 32) behind →
    slice_split (λ b. b == 32) behind ≡ b ∷ slice_split (λ b. b == 32) offsets
    → slice_split (λ b. b == 32) offsets ≡ c ∷ slice_split (λ b. b == 32) d
    → number_of a ≡ Some n → text_of cursor_text_limit b ≡ Some text → signed_of c ≡ Some begin → signed_of d ≡ Some end
    → line_of_words Acts (codes "mpreedit" ∷ slice_split (λ b. b == 32) rest) ≡
    Some (lines.Act (acts.MPreedit n text begin end))
preedit_read rest behind offsets a b c d n text begin end cut more last e f g h =
    rw (cut, more, last, alone signeds d end h) (ap as_line (preedit_words a b c d n text begin end e f g h))

-- ---- lines of a session

take_words : (a b : List ℕ) (peer most : ℕ) → number_of a ≡ Some peer → count_of piece_limit b ≡ Some most
    → three_session_words (codes "take") a b ≡ Some (lines.Session (sessions.Take peer most))
unfolding three_session_words
take_words a b peer most e f = rw (e, f) refl

pub take_read : (rest a b : List ℕ) (peer most : ℕ) →
    slice_split (λ b. b == 32) rest ≡ a ∷ slice_split (λ b. b == 32) b → number_of a ≡ Some peer →
    count_of piece_limit b ≡ Some most
    → line_of_words Session (codes "take" ∷ slice_split (λ b. b == 32) rest) ≡
    Some (lines.Session (sessions.Take peer most))
take_read rest a b peer most cut e f =
    rw (cut, alone (counts piece_limit (omega arith)) b most f) (take_words a b peer most e f)

focus_words : (a b : List ℕ) (peer i : ℕ) → number_of a ≡ Some peer → number_of b ≡ Some i
    → three_session_words (codes "focus") a b ≡ Some (lines.Session (sessions.Shell (shells.Focus peer i)))
unfolding three_session_words three_shell_words
focus_words a b peer i e f = rw (e, f) refl

pub focus_read : (rest a b : List ℕ) (peer i : ℕ) → slice_split (λ b. b == 32) rest ≡ a ∷ slice_split (λ b. b == 32) b →
    number_of a ≡ Some peer → number_of b ≡ Some i
    → line_of_words Session (codes "focus" ∷ slice_split (λ b. b == 32) rest) ≡
    Some (lines.Session (sessions.Shell (shells.Focus peer i)))
focus_read rest a b peer i cut e f = rw (cut, alone numbers b i f) (focus_words a b peer i e f)
