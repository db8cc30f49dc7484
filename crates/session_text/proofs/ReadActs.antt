-- Words that are read as an act are that act's.
use Rattle.std.proofs.Common.{◌≡◌, ℕ, List, [], ◌∷◌, Some, refl}
use Rattle.std.specs.Prelude.{codes}
use Rattle.relay_model.specs.declared.act.Act.{Act}
use Rattle.relay_model.specs.declared.act.Act.TheVariants as acts
use Rattle.relay_model.specs.declared.act.EndCause.TheVariants as causes
use Rattle.session_text.specs.Words.{rect, size, text_limit, cursor_text_limit}
use Rattle.session_text.specs.Grammar.{act_words, HasLine}
use Rattle.session_text.specs.Reading.{one_word, two_words, three_words, four_words, five_words, six_words, act_of}
use Rattle.session_text.proofs.TestsLetThrough.{arm}
use Rattle.session_text.proofs.WordsByKind.{IsRead, bound, made, read_alone, read_one, read_two}
use Rattle.session_text.proofs.WordKinds.{numbers, signeds, sizes, states, texts}

abbrev pub IsReadAct : List (List ℕ) → Act → Type 0
IsReadAct = IsRead act_words HasLine

-- ---- the acts by the number of words

one_sound : (k : List ℕ) (act : Act) → one_word k ≡ Some act → IsReadAct (k ∷ []) act
unfolding one_word
one_sound k act e =
    read_alone (codes "peer") acts.Peer k _ act refl tt e (λ e.
    read_alone (codes "unfocus") acts.Unfocus k _ act refl tt e (λ e. absurd (cc e)))

two_sound : (k a : List ℕ) (act : Act) → two_words k a ≡ Some act → IsReadAct (k ∷ a ∷ []) act
unfolding two_words
two_sound k a act e =
    read_one numbers (codes "gone") (λ p. acts.Gone p causes.Gone) k a _ act (λ p. refl) (λ p h. h) e (λ e.
    read_one numbers (codes "surface") acts.Surface k a _ act (λ p. refl) (λ p h. h) e (λ e.
    read_one numbers (codes "field") acts.Field k a _ act (λ p. refl) (λ p h. h) e (λ e.
    read_one numbers (codes "method") acts.Method k a _ act (λ p. refl) (λ p h. h) e (λ e.
    read_one numbers (codes "grab") acts.Grab k a _ act (λ m. refl) (λ m h. h) e (λ e.
    read_one numbers (codes "drop") acts.Drop k a _ act (λ x. refl) (λ x h. h) e (λ e.
    read_one numbers (codes "focus") acts.Focus k a _ act (λ s. refl) (λ s h. h) e (λ e.
    read_one numbers (codes "enable") acts.Enable k a _ act (λ f. refl) (λ f h. h) e (λ e.
    read_one numbers (codes "disable") acts.Disable k a _ act (λ f. refl) (λ f h. h) e (λ e.
    read_one numbers (codes "commit") acts.Commit k a _ act (λ f. refl) (λ f h. h) e (λ e.
    read_one numbers (codes "vboard") acts.VBoard k a _ act (λ p. refl) (λ p h. h) e (λ e. absurd (cc e))))))))))))

three_sound : (k a b : List ℕ) (act : Act) → three_words k a b ≡ Some act → IsReadAct (k ∷ a ∷ b ∷ []) act
unfolding three_words
three_sound k a b act e =
    read_two numbers numbers (codes "popup") acts.Popup k a b _ act (λ m s. refl) (λ m s h i. (h, i)) e (λ e.
    read_two sizes sizes (codes "screen") (λ w h. acts.Screen (size w h)) k a b _ act (λ w h. refl)
    (λ w h i j. (i, j)) e (λ e.
    read_two numbers numbers (codes "cause") acts.Cause k a b _ act (λ f c. refl) (λ f c h i. (h, i)) e (λ e.
    read_two numbers (texts text_limit) (codes "mstring") acts.MString k a b _ act (λ m t. refl)
    (λ m t h i. (h, i)) e (λ e.
    read_two numbers numbers (codes "mcommit") acts.MCommit k a b _ act (λ m s. refl) (λ m s h i. (h, i)) e (λ e.
    read_two signeds signeds (codes "repeat") (λ r d. acts.Repeat (record { rate = r; delay = d })) k a b _ act
    (λ r d. refl) (λ r d h i. (h, i)) e (λ e. absurd (cc e)))))))

four_sound : (k a b c : List ℕ) (act : Act) → four_words k a b c ≡ Some act → IsReadAct (k ∷ a ∷ b ∷ c ∷ []) act
unfolding four_words
four_sound k a b c act e =
    arm k (codes "content") _ _ act e (λ is e.
    bound numbers a _ act e (λ f h is1 e. bound numbers b _ act e
    (λ hint i is2 e. bound numbers c _ act e (λ purpose j is3 e.
    made _ (acts.Content f hint purpose) act e (rw (is, is1, is2, is3) refl) (h, i, j))))) (λ e.
    arm k (codes "mdelete") _ _ act e (λ is e.
    bound numbers a _ act e (λ m h is1 e. bound numbers b _ act e
    (λ before i is2 e. bound numbers c _ act e (λ after j is3 e.
    made _ (acts.MDelete m before after) act e (rw (is, is1, is2, is3) refl) (h, i, j))))) (λ e.
    arm k (codes "key") _ _ act e (λ is e. bound numbers a _ act e
    (λ time h is1 e. bound numbers b _ act e (λ key i is2 e. bound states c _ act e (λ state j is3 e.
    made _ (acts.Key time key state) act e (rw (is, is1, is2, is3) refl) (h, i, j))))) (λ e.
    arm k (codes "keymap") _ _ act e (λ is e.
    bound numbers a _ act e (λ format h is1 e.
    bound numbers b _ act e (λ token i is2 e. bound numbers c _ act e (λ size j is3 e.
    made _ (acts.Keymap (record { format = format; token = token; size = size })) act e (rw (is, is1, is2, is3) refl)
    (h, i, j))))) (λ e. absurd (cc e)))))

five_sound : (k a b c d : List ℕ) (act : Act) → five_words k a b c d ≡ Some act → IsReadAct (k ∷ a ∷ b ∷ c ∷ d ∷ []) act
unfolding five_words
five_sound k a b c d act e =
    arm k (codes "surround") _ _ act e (λ is e.
    bound numbers a _ act e (λ f h is1 e. bound (texts cursor_text_limit) b _ act e
    (λ text i is2 e. bound signeds c _ act e (λ cursor j is3 e. bound signeds d _ act e (λ anchor l is4 e.
    made _ (acts.Surround f text cursor anchor) act e (rw (is, is1, is2, is3, is4) refl) (h, i, j, l)))))) (λ e.
    arm k (codes "mpreedit") _ _ act e (λ is e.
    bound numbers a _ act e (λ m h is1 e. bound (texts cursor_text_limit) b _ act e
    (λ text i is2 e. bound signeds c _ act e (λ begin j is3 e. bound signeds d _ act e (λ end l is4 e.
    made _ (acts.MPreedit m text begin end) act e (rw (is, is1, is2, is3, is4) refl) (h, i, j, l)))))) (λ e.
    arm k (codes "mods") _ _ act e (λ is e. bound numbers a _ act e
    (λ depressed h is1 e. bound numbers b _ act e
    (λ latched i is2 e. bound numbers c _ act e (λ locked j is3 e. bound numbers d _ act e (λ group l is4 e.
    made _ (acts.Mods (record { depressed = depressed; latched = latched; locked = locked; group = group })) act e
    (rw (is, is1, is2, is3, is4) refl) (h, i, j, l)))))) (λ e.
    arm k (codes "vkeymap") _ _ act e (λ is e.
    bound numbers a _ act e (λ v h is1 e. bound numbers b _ act e
    (λ format i is2 e. bound numbers c _ act e (λ token j is3 e. bound numbers d _ act e (λ size l is4 e.
    made _ (acts.VKeymap v (record { format = format; token = token; size = size })) act e
    (rw (is, is1, is2, is3, is4) refl) (h, i, j, l)))))) (λ e.
    arm k (codes "vkey") _ _ act e (λ is e. bound numbers a _ act e
    (λ v h is1 e. bound numbers b _ act e (λ time i is2 e.
    bound numbers c _ act e (λ key j is3 e. bound states d _ act e (λ state l is4 e.
    made _ (acts.VKey v time key state) act e (rw (is, is1, is2, is3, is4) refl) (h, i, j, l))))))
    (λ e. absurd (cc e))))))

six_sound : (k a b c d f : List ℕ) (act : Act) → six_words k a b c d f ≡ Some act →
    IsReadAct (k ∷ a ∷ b ∷ c ∷ d ∷ f ∷ []) act
unfolding six_words
six_sound k a b c d f act e =
    arm k (codes "area") _ _ act e (λ is e. bound numbers a _ act e
    (λ s i is1 e. bound signeds b _ act e (λ x j is2 e.
    bound signeds c _ act e (λ y l is3 e. bound sizes d _ act e (λ w m is4 e. bound sizes f _ act e (λ h n is5 e.
    made _ (acts.Area s (rect x y w h)) act e (rw (is, is1, is2, is3, is4, is5) refl) (i, (j, l, m, n)))))))) (λ e.
    arm k (codes "rect") _ _ act e (λ is e. bound numbers a _ act e
    (λ g i is1 e. bound signeds b _ act e (λ x j is2 e.
    bound signeds c _ act e (λ y l is3 e. bound signeds d _ act e
    (λ w m is4 e. bound signeds f _ act e (λ h n is5 e.
    made _ (acts.Cursor g (rect x y w h)) act e (rw (is, is1, is2, is3, is4, is5) refl) (i, (j, l, m, n)))))))) (λ e.
    arm k (codes "vmods") _ _ act e (λ is e. bound numbers a _ act e
    (λ v h is1 e. bound numbers b _ act e (λ depressed i is2 e.
    bound numbers c _ act e (λ latched j is3 e.
    bound numbers d _ act e (λ locked l is4 e. bound numbers f _ act e (λ group m is5 e.
    made _ (acts.VMods v (record { depressed = depressed; latched = latched; locked = locked; group = group })) act e
    (rw (is, is1, is2, is3, is4, is5) refl) (h, i, j, l, m))))))) (λ e. absurd (cc e))))

pub act_sound : (ws : List (List ℕ)) (act : Act) → act_of ws ≡ Some act → IsReadAct ws act
act_sound [] act e = absurd (cc e)
act_sound (k ∷ []) act e = one_sound k act e
act_sound (k ∷ a ∷ []) act e = two_sound k a act e
act_sound (k ∷ a ∷ b ∷ []) act e = three_sound k a b act e
act_sound (k ∷ a ∷ b ∷ c ∷ []) act e = four_sound k a b c act e
act_sound (k ∷ a ∷ b ∷ c ∷ d ∷ []) act e = five_sound k a b c d act e
act_sound (k ∷ a ∷ b ∷ c ∷ d ∷ f ∷ []) act e = six_sound k a b c d f act e
act_sound (k ∷ a ∷ b ∷ c ∷ d ∷ f ∷ w ∷ ws) act e = absurd (cc e)
