-- The lines of the setup.
use Rattle.std.proofs.Common.{◌≡◌, ℕ, ◌<◌, ◌≤◌, Bool, true, false, cond, ◌&&◌, not, ◌==◌, List, [], ◌∷◌, ◌++◌, refl, ap, sym, ◌∙◌, subst, arith, append-nil, append_assoc, ◌≢◌, Option, Some, None, codes}
use Rattle.std.specs.List.{AllByRecursion, flat_map}
use Rattle.std.specs.Str.{bytes_eq}
use Rattle.std.proofs.lemmas.Bool.{and_parts, and_from, not-true, eqb-false, not_from_false, ne_eqb}
use Rattle.std.proofs.lemmas.Option.{same_Some, none-some}
use Rattle.rx_rules.proofs.Common.{PlaceId, Kill, ComesAfter, Spares, Ascends}
use Rattle.rx_base.proofs.Elements.{flat4, rest-is}
use Rattle.rx_rules.proofs.Kills.{further}
use Rattle.rx_trace.specs.Fields.{natural_field, kill_field}
use Rattle.rx_fields.specs.Words.{Lacks, pieces, fields}
use Rattle.rx_fields.specs.Inside.Readers.{all_read}
use Rattle.rx_history.specs.KillOrder.{is_before}
use Rattle.rx_history.proofs.InOrder.{before-Decides}
use Rattle.rx_fields.specs.Inside.FieldWords.{kill_of, count_of, count_at}
use Rattle.rx_trace.specs.Inside.Machine.{sizes_at, may_follow, planned, kills_of, kills_line_of}
use Rattle.rx_fields.proofs.Cuts.{Plain, bytes-same}
use Rattle.rx_trace.proofs.Faults.{plain-word-is}
use Rattle.rx_trace.proofs.ReadFields.{IsCount, count-takes, count-item, kill-takes, kill-item, one-word, word-again}
use Rattle.rx_trace.proofs.Spelt.{Takes, takes-done, takes-followed, takes-keyed, Any, again-as, again-done, again-keyed, again-field}
use Rattle.rx_trace.proofs.Wholes.{cut-line, fields-lack, LineAgain, line-takes, line-again, words-of-line}

abbrev pub sizes_text : ℕ → ℕ → List ℕ
sizes_text places heap = codes "places" ++ natural_field places ++ codes " heap" ++ natural_field heap

abbrev AreSizes : ℕ × ℕ → List ℕ → Type 0
AreSizes x t = (t ≡ 32 ∷ sizes_text x.0 x.1) × IsCount 16 x.0 × IsCount 4096 x.1

count-one : (most : ℕ) → Takes (count_at most) (λ n t. (t ≡ natural_field n) × IsCount most n)
count-one most = one-word (count_of most) natural_field (IsCount most) (count-takes most)

sizes-read : Takes sizes_at AreSizes
sizes-read =
    takes-keyed (codes "places") _ AreSizes (
    takes-followed (count_at 16) _ natural_field (IsCount 16) _ (count-one 16) (λ places a.
    takes-keyed (codes "heap") _ _ (
    takes-followed (count_at 4096) _ natural_field (IsCount 4096) _ (count-one 4096) (λ heap b.
    takes-done (places, heap) _ (flat4 (codes " places") (natural_field places) (codes " heap") (natural_field heap), a, b)))))

-- the line of the sizes
pub sizes-take : (line : List ℕ) (x : ℕ × ℕ) → all_read (sizes_at (pieces 32 line)) ≡ Some x → (line ≡ sizes_text x.0 x.1) × IsCount 16 x.0 × IsCount 4096 x.1
sizes-take line x e = let got = line-takes sizes_at AreSizes line x sizes-read e in (rest-is 32 line (sizes_text x.0 x.1) got.0, got.1, got.2)

pub sizes-again : (places heap : ℕ) → IsCount 16 places → IsCount 4096 heap → LineAgain (all_read (sizes_at (pieces 32 (sizes_text places heap)))) (places, heap) (sizes_text places heap)
sizes-again places heap a b =
    let x : ℕ × ℕ = (places, heap) in
    line-again sizes_at x (sizes_text places heap) Any tt (
    again-as sizes_at x _ _ Any Any (flat4 (codes " places") (natural_field places) (codes " heap") (natural_field heap)) (λ rest n. n) (
    again-keyed (codes "places") _ x _ Any (plain-word-is (codes "places") refl) (
    again-field (count_at 16) _ places x (natural_field places) _ Any (word-again (count_of 16) natural_field places (count-item 16 places (omega arith) a)) (
    again-keyed (codes "heap") _ x _ Any (plain-word-is (codes "heap") refl) (
    again-field (count_at 4096) _ heap x (natural_field heap) _ Any (word-again (count_of 4096) natural_field heap (count-item 4096 heap (omega arith) b)) (
    again-done x Any))))))

-- kills in order
abbrev pub Moments : List Kill → Type 0
Moments kills = AllByRecursion (λ k. k.moment ≤ 1000000) kills

pub after-is : (a b : Kill) → is_before a b ≡ true → ComesAfter a b
after-is a b e = (before-Decides a b).0 e

is-after : (a b : Kill) → ComesAfter a b → is_before a b ≡ true
is-after a b h = (before-Decides a b).1 h

-- the kill comes after each of the list, and has a place of its own
abbrev Follows : List Kill → Kill → Type 0
Follows [] kill = Unit {0}
Follows (k ∷ ks) kill = ComesAfter k kill × (k.place.0 ≢ kill.place.0) × Follows ks kill

follows-is : (ks : List Kill) (kill : Kill) → may_follow ks kill ≡ true → Follows ks kill
follows-is [] kill e = tt
follows-is (k ∷ ks) kill e =
    let one = and_parts (is_before k kill && not (k.place.0 == kill.place.0)) (may_follow ks kill) e in
    let two = and_parts (is_before k kill) (not (k.place.0 == kill.place.0)) one.0 in
    (after-is k kill two.0, eqb-false k.place.0 kill.place.0 (not-true (k.place.0 == kill.place.0) two.1), follows-is ks kill one.1)

is-followed : (ks : List Kill) (kill : Kill) → Follows ks kill → may_follow ks kill ≡ true
is-followed [] kill f = refl
is-followed (k ∷ ks) kill f =
    and_from (is_before k kill && not (k.place.0 == kill.place.0)) (may_follow ks kill)
    (and_from (is_before k kill) (not (k.place.0 == kill.place.0)) (is-after k kill f.0) (ap not (ne_eqb k.place.0 kill.place.0 f.1)))
    (is-followed ks kill f.2)

spares-push : (p : PlaceId) (ks : List Kill) (kill : Kill) → Spares p ks → p.0 ≢ kill.place.0 → Spares p (ks ++ kill ∷ [])
spares-push p [] kill s apart = (apart, tt)
spares-push p (k ∷ ks) kill s apart = (s.0, spares-push p ks kill s.1 apart)

ascends-push : (a : Kill) (ks : List Kill) (kill : Kill) → Ascends a ks → ComesAfter a kill → Follows ks kill → Ascends a (ks ++ kill ∷ [])
ascends-push a [] kill s comes f = (comes, tt)
ascends-push a (k ∷ ks) kill s comes f = (s.0, ascends-push k ks kill s.1 f.0 f.2)

-- kills of places that are not 0, none twice, in ascending order
abbrev pub InTurn : List Kill → Type 0
InTurn [] = Unit {0}
InTurn (k ∷ ks) = (k.place.0 < 16) × (k.place.0 ≢ 0) × Spares k.place ks × Ascends k ks × InTurn ks

-- a kill that follows joins kills in order
kills-push : (ks : List Kill) (kill : Kill) → InTurn ks → kill.place.0 < 16 → kill.place.0 ≢ 0 → Follows ks kill → InTurn (ks ++ kill ∷ [])
kills-push [] kill all low some f = (low, some, tt, tt, tt)
kills-push (k ∷ ks) kill all low some f =
    (all.0, all.1, spares-push k.place ks kill all.2 f.1, ascends-push k ks kill all.3 f.0 f.2, kills-push ks kill all.4 low some f.2)

moments-push : (ks : List Kill) (kill : Kill) → Moments ks → kill.moment ≤ 1000000 → Moments (ks ++ kill ∷ [])
moments-push [] kill all low = (low, tt)
moments-push (k ∷ ks) kill all low = (all.0, moments-push ks kill all.1 low)

flat-push : (ks : List Kill) (kill : Kill) → flat_map kill_field (ks ++ kill ∷ []) ≡ flat_map kill_field ks ++ kill_field kill
flat-push [] kill = append-nil (kill_field kill)
flat-push (k ∷ ks) kill = ap (λ r. kill_field k ++ r) (flat-push ks kill) ∙ sym (append_assoc (kill_field k) (flat_map kill_field ks) (kill_field kill))

pub record KillsRead (front : List ℕ) (kills : List Kill) : Type 0 where
  pub text : front ≡ flat_map kill_field kills
  pub all : InTurn kills
  pub moments : Moments kills

kill-read : (w : List ℕ) (ws : List (List ℕ)) (ks kills : List Kill) (o : Option Kill) → kill_of w ≡ o → InTurn ks → Moments ks → planned o ks (λ js. kills_of js ws) ≡ Some kills
    → ((js : List Kill) → InTurn js → Moments js → kills_of js ws ≡ Some kills → KillsRead (flat_map kill_field js ++ fields ws) kills) → KillsRead (flat_map kill_field ks ++ fields (w ∷ ws)) kills
kill-read w ws ks kills None is all moments e more = absurd (none-some kills e)
kill-read w ws ks kills (Some kill) is all moments e more = by (not (kill.place.0 == 0) && may_follow ks kill) refl e
  where
    by : (b : Bool) → (not (kill.place.0 == 0) && may_follow ks kill) ≡ b → cond b (kills_of (ks ++ kill ∷ []) ws) None ≡ Some kills → KillsRead (flat_map kill_field ks ++ fields (w ∷ ws)) kills
    by false h f = absurd (none-some kills f)
    by true h f =
        let both = and_parts (not (kill.place.0 == 0)) (may_follow ks kill) h in
        let known = kill-takes w kill is in
        let some = eqb-false kill.place.0 0 (not-true (kill.place.0 == 0) both.0) in
        let next = more (ks ++ kill ∷ []) (kills-push ks kill all known.1.0 some (follows-is ks kill both.1)) (moments-push ks kill moments known.1.1) f in
        record {
          text = ap (λ v. flat_map kill_field ks ++ (v ++ fields ws)) known.0 ∙ sym (append_assoc (flat_map kill_field ks) (kill_field kill) (fields ws)) ∙ ap (λ v. v ++ fields ws) (sym (flat-push ks kill)) ∙ next.text;
          all = next.all;
          moments = next.moments;
        }

kills-read : (ws : List (List ℕ)) (ks kills : List Kill) → InTurn ks → Moments ks → kills_of ks ws ≡ Some kills → KillsRead (flat_map kill_field ks ++ fields ws) kills
kills-read [] ks kills all moments e =
    let same = same_Some ks kills e in
    record { text = append-nil (flat_map kill_field ks) ∙ ap (flat_map kill_field) same; all = subst (InTurn) same all; moments = subst Moments same moments }
kills-read (w ∷ ws) ks kills all moments e =
    kill-read w ws ks kills (kill_of w) refl all moments e (λ js a m f. kills-read ws js kills a m f)

pub record KillsLine (line : List ℕ) (kills : List Kill) : Type 0 where
  pub text : line ≡ codes "kills" ++ flat_map kill_field kills
  pub all : InTurn kills
  pub moments : Moments kills

-- the line of the kills
pub kills-take : (line : List ℕ) (kills : List Kill) → kills_line_of (pieces 32 line) ≡ Some kills → KillsLine line kills
kills-take line kills e = by (pieces 32 line) (words-of-line line) e
  where
    keyed-kills : (w : List ℕ) (ws : List (List ℕ)) → fields (w ∷ ws) ≡ 32 ∷ line → (b : Bool) → bytes_eq w (codes "kills") ≡ b → cond b (kills_of [] ws) None ≡ Some kills → KillsLine line kills
    keyed-kills w ws is false h f = absurd (none-some kills f)
    keyed-kills w ws is true h f =
        let read = kills-read ws [] kills tt tt f in
        record {
          text = rest-is 32 line _ (sym is ∙ ap (λ v. (32 ∷ v) ++ fields ws) (bytes-same w (codes "kills") h) ∙ ap (λ v. codes " kills" ++ v) read.text);
          all = read.all;
          moments = read.moments;
        }

    by : (ws : List (List ℕ)) → fields ws ≡ 32 ∷ line → kills_line_of ws ≡ Some kills → KillsLine line kills
    by [] is f = absurd (none-some kills f)
    by (w ∷ ws) is f = keyed-kills w ws is (bytes_eq w (codes "kills")) refl f

ascends-to : (a : Kill) (pre : List Kill) (k : Kill) (ks : List Kill) → Ascends a (pre ++ k ∷ ks) → ComesAfter a k
ascends-to a [] k ks h = h.0
ascends-to a (b ∷ pre) k ks h = further a b k h.0 (ascends-to b pre k ks h.1)

spares-to : (p : PlaceId) (pre : List Kill) (k : Kill) (ks : List Kill) → Spares p (pre ++ k ∷ ks) → p.0 ≢ k.place.0
spares-to p [] k ks h = h.0
spares-to p (b ∷ pre) k ks h = spares-to p pre k ks h.1

-- a kill of kills in order
record Stands (pre : List Kill) (k : Kill) : Type 0 where
  pub low : k.place.0 < 16
  pub some : k.place.0 ≢ 0
  pub follows : Follows pre k

stands : (pre : List Kill) (k : Kill) (ks : List Kill) → InTurn (pre ++ k ∷ ks) → Stands pre k
stands [] k ks all = record { low = all.0; some = all.1; follows = tt }
stands (a ∷ pre) k ks all =
    let more = stands pre k ks all.4 in
    record { low = more.low; some = more.some; follows = (ascends-to a pre k ks all.3, spares-to a.place pre k ks all.2, more.follows) }

record KillsAgain (pre ks : List Kill) : Type 0 where
  pub front : List (List ℕ)
  pub spelled : fields front ≡ flat_map kill_field ks
  pub plain : AllByRecursion Plain front
  pub reads : kills_of pre front ≡ Some (pre ++ ks)

kills-again : (pre ks : List Kill) → InTurn (pre ++ ks) → Moments ks → KillsAgain pre ks
kills-again pre [] all moments = record { front = []; spelled = refl; plain = tt; reads = ap Some (sym (append-nil pre)) }
kills-again pre (k ∷ ks) all moments =
    let here = stands pre k ks all in
    let item = kill-item k (here.low, moments.0) in
    let more = kills-again (pre ++ k ∷ []) ks (subst (InTurn) (sym (append_assoc pre (k ∷ []) ks)) all) moments.1 in
    let may : (not (k.place.0 == 0) && may_follow pre k) ≡ true =
    and_from (not (k.place.0 == 0)) (may_follow pre k) (not_from_false (k.place.0 == 0) (ne_eqb k.place.0 0 here.some)) (is-followed pre k here.follows) in
    record {
      front = item.text ∷ more.front;
      spelled = ap (λ v. v ++ fields more.front) item.spelled ∙ ap (λ v. kill_field k ++ v) more.spelled;
      plain = (item.plain, more.plain);
      reads = ap (λ o. planned o pre (λ js. kills_of js more.front)) item.reads
          ∙ ap (λ b. cond b (kills_of (pre ++ k ∷ []) more.front) None) may
          ∙ more.reads ∙ ap Some (append_assoc pre (k ∷ []) ks);
    }

pub kills-line-again : (kills : List Kill) → InTurn kills → Moments kills → LineAgain (kills_line_of (pieces 32 (codes "kills" ++ flat_map kill_field kills))) kills (codes "kills" ++ flat_map kill_field kills)
kills-line-again kills all moments =
    let h = kills-again [] kills all moments in
    let line = codes "kills" ++ flat_map kill_field kills in
    let front : List (List ℕ) = codes "kills" ∷ h.front in
    let spelled : fields front ≡ 32 ∷ line = ap (λ v. codes " kills" ++ v) h.spelled in
    let plain : AllByRecursion Plain front = (plain-word-is (codes "kills") refl, h.plain) in
    let lacks : Lacks 10 (32 ∷ line) = subst (Lacks 10) spelled (fields-lack front plain) in
    record {
      reads = ap (kills_line_of) (cut-line front line spelled plain) ∙ h.reads;
      lacks = lacks.1;
    }
