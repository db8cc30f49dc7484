-- What the bytes of a line read as.
use Rattle.std.specs.Prelude.{◌≡◌, ℕ, ◌==◌, nat_le, if◌then◌else◌, Bool, false, List, [], ◌∷◌, length, codes, Option, Some, None, Result, Ok, Err}
use Rattle.std.specs.List.{slice_split}
use Rattle.std.specs.Str.{bytes_eq}
use Rattle.relay_model.specs.declared.act.Act.{Act}
use Rattle.relay_model.specs.declared.act.Act.TheVariants as acts
use Rattle.relay_model.specs.declared.act.EndCause.TheVariants as causes
use Rattle.session_text.specs.declared.line.Form.{Form}
use Rattle.session_text.specs.declared.line.Form.TheVariants.{Acts, Session, Session2, Shell}
use Rattle.session_text.specs.declared.line.Line.{Line}
use Rattle.session_text.specs.declared.line.Line.TheVariants as lines
use Rattle.session_text.specs.declared.line.BadLine.{BadLine}
use Rattle.session_text.specs.declared.line.BadLine.TheVariants as bad
use Rattle.session_text.specs.Words.{◌>>=◌, rect, size, text_limit, cursor_text_limit, number_of, signed_of, size_of, state_of, text_of}
use Rattle.session_text.specs.SessionReading.{session_of}
use Rattle.session_text.specs.StampedReading.{link_of, session_2_of}

-- the most bytes of a line, without its line feed
abbrev pub line_limit : ℕ
line_limit = 8400

unfoldable pub one_word : List ℕ → Option Act
one_word k =
    if bytes_eq k (codes "peer") then Some acts.Peer
    else if bytes_eq k (codes "unfocus") then Some acts.Unfocus
    else None

unfoldable pub two_words : List ℕ → List ℕ → Option Act
two_words k a =
    if bytes_eq k (codes "gone") then number_of a >>= (λ p. Some (acts.Gone p causes.Gone))
    else if bytes_eq k (codes "surface") then number_of a >>= (λ p. Some (acts.Surface p))
    else if bytes_eq k (codes "field") then number_of a >>= (λ p. Some (acts.Field p))
    else if bytes_eq k (codes "method") then number_of a >>= (λ p. Some (acts.Method p))
    else if bytes_eq k (codes "grab") then number_of a >>= (λ m. Some (acts.Grab m))
    else if bytes_eq k (codes "drop") then number_of a >>= (λ x. Some (acts.Drop x))
    else if bytes_eq k (codes "focus") then number_of a >>= (λ s. Some (acts.Focus s))
    else if bytes_eq k (codes "enable") then number_of a >>= (λ f. Some (acts.Enable f))
    else if bytes_eq k (codes "disable") then number_of a >>= (λ f. Some (acts.Disable f))
    else if bytes_eq k (codes "commit") then number_of a >>= (λ f. Some (acts.Commit f))
    else if bytes_eq k (codes "vboard") then number_of a >>= (λ p. Some (acts.VBoard p))
    else None

unfoldable pub three_words : List ℕ → List ℕ → List ℕ → Option Act
three_words k a b =
    if bytes_eq k (codes "popup")
    then number_of a >>= (λ m. number_of b >>= (λ s. Some (acts.Popup m s)))
    else if bytes_eq k (codes "screen")
    then size_of a >>= (λ w. size_of b >>= (λ h. Some (acts.Screen (size w h))))
    else if bytes_eq k (codes "cause")
    then number_of a >>= (λ f. number_of b >>= (λ cause. Some (acts.Cause f cause)))
    else if bytes_eq k (codes "mstring")
    then number_of a >>= (λ m. text_of text_limit b >>= (λ text. Some (acts.MString m text)))
    else if bytes_eq k (codes "mcommit")
    then number_of a >>= (λ m. number_of b >>= (λ serial. Some (acts.MCommit m serial)))
    else if bytes_eq k (codes "repeat")
    then signed_of a >>= (λ rate. signed_of b >>=
    (λ delay. Some (acts.Repeat (record { rate = rate; delay = delay }))))
    else None

unfoldable pub four_words : List ℕ → List ℕ → List ℕ → List ℕ → Option Act
four_words k a b c =
    if bytes_eq k (codes "content") then
    number_of a >>= (λ f. number_of b >>= (λ hint. number_of c >>= (λ purpose.
    Some (acts.Content f hint purpose))))
    else if bytes_eq k (codes "mdelete") then
    number_of a >>= (λ m. number_of b >>= (λ before. number_of c >>= (λ after.
    Some (acts.MDelete m before after))))
    else if bytes_eq k (codes "key") then
    number_of a >>= (λ time. number_of b >>= (λ key. state_of c >>= (λ state.
    Some (acts.Key time key state))))
    else if bytes_eq k (codes "keymap") then
    number_of a >>= (λ format. number_of b >>= (λ token. number_of c >>= (λ size.
    Some (acts.Keymap (record { format = format; token = token; size = size })))))
    else None

unfoldable pub five_words : List ℕ → List ℕ → List ℕ → List ℕ → List ℕ → Option Act
five_words k a b c d =
    if bytes_eq k (codes "surround") then
    number_of a >>= (λ f. text_of cursor_text_limit b >>= (λ text.
    signed_of c >>= (λ cursor. signed_of d >>= (λ anchor.
    Some (acts.Surround f text cursor anchor)))))
    else if bytes_eq k (codes "mpreedit") then
    number_of a >>= (λ m. text_of cursor_text_limit b >>= (λ text.
    signed_of c >>= (λ begin. signed_of d >>= (λ end.
    Some (acts.MPreedit m text begin end)))))
    else if bytes_eq k (codes "mods") then
    number_of a >>=
    (λ depressed. number_of b >>=
    (λ latched. number_of c >>= (λ locked. number_of d >>= (λ group.
    Some (acts.Mods
    (record { depressed = depressed; latched = latched; locked = locked; group = group }))))))
    else if bytes_eq k (codes "vkeymap") then
    number_of a >>=
    (λ v. number_of b >>= (λ format. number_of c >>= (λ token. number_of d >>= (λ size.
    Some (acts.VKeymap v (record { format = format; token = token; size = size }))))))
    else if bytes_eq k (codes "vkey") then
    number_of a >>= (λ v. number_of b >>= (λ time. number_of c >>= (λ key. state_of d >>= (λ state.
    Some (acts.VKey v time key state)))))
    else None

unfoldable pub six_words : List ℕ → List ℕ → List ℕ → List ℕ → List ℕ → List ℕ → Option Act
six_words k a b c d e =
    if bytes_eq k (codes "area") then
    number_of a >>=
    (λ s. signed_of b >>= (λ x. signed_of c >>= (λ y. size_of d >>= (λ w. size_of e >>= (λ h.
    Some (acts.Area s (rect x y w h)))))))
    else if bytes_eq k (codes "rect") then
    number_of a >>=
    (λ f. signed_of b >>=
    (λ x. signed_of c >>= (λ y. signed_of d >>= (λ w. signed_of e >>= (λ h.
    Some (acts.Cursor f (rect x y w h)))))))
    else if bytes_eq k (codes "vmods") then
    number_of a >>=
    (λ v. number_of b >>=
    (λ depressed. number_of c >>=
    (λ latched. number_of d >>= (λ locked. number_of e >>= (λ group.
    Some (acts.VMods v
    (record { depressed = depressed; latched = latched; locked = locked; group = group })))))))
    else None

-- the act of the words, the first of which names it
abbrev pub act_of : List (List ℕ) → Option Act
act_of (k ∷ []) = one_word k
act_of (k ∷ a ∷ []) = two_words k a
act_of (k ∷ a ∷ b ∷ []) = three_words k a b
act_of (k ∷ a ∷ b ∷ c ∷ []) = four_words k a b c
act_of (k ∷ a ∷ b ∷ c ∷ d ∷ []) = five_words k a b c d
act_of (k ∷ a ∷ b ∷ c ∷ d ∷ e ∷ []) = six_words k a b c d e
act_of _ = None

abbrev pub is_end : List (List ℕ) → Bool
is_end (k ∷ []) = bytes_eq k (codes "end")
is_end _ = false

-- the line of the words in each form
abbrev pub line_of_words : Form → List (List ℕ) → Option Line
line_of_words Acts words =
    if is_end words then Some lines.End else act_of words >>= (λ act. Some (lines.Act act))
line_of_words Session words = session_of words
line_of_words Session2 words = session_2_of words
line_of_words Shell words = link_of words >>= (λ step. Some (lines.Shell step))

-- the line of the bytes, of which there are no more than the limit
unfoldable pub line_of : Form → List ℕ → Option Line
line_of form bytes =
    if nat_le (length bytes) line_limit then line_of_words form (slice_split (λ b. b == 32) bytes)
    else None

-- What was read is what this says, and nothing is refused that it says, unless memory ran out.
abbrev pub Reads : {X : Type 0} → Result X BadLine → Option X → Type 0
Reads (Ok x) o = o ≡ Some x
Reads (Err bad.Grammar) o = o ≡ None
Reads (Err bad.NoMemory) o = Unit {0}
