-- What the items of a watch of a run tell.
use Rattle.std.proofs.Common.{◌≡◌, ℕ, ◌+◌, false, List, [], ◌∷◌, length, Some, refl, ap, ◌∙◌, subst, arith}
use Rattle.rx_rules.specs.declared.entries.Entry.{Entry}
use Rattle.rx_monitor.specs.declared.summary.Summary.{Summary}
use Rattle.rx_monitor.specs.Boards.{Listing, IsWatched}
use Rattle.rx_monitor.specs.Sums.{WatchTells}
use Rattle.rx_objects.specs.Shown.{summary_of, ShowsUpTo, BoardShows}
use Rattle.rx_live.specs.Watching.{IsWatchOf}

pub tells : WatchTells → (n places : ℕ) (es : List Entry) (board : Listing) (before items : List Summary) → length before ≡ n → BoardShows places es false (Some board)
    → (length items ≡ length before + 1) × IsWatched board.list items → IsWatchOf n places es items
tells law n places es board before items count shows done =
    let last : shows.0 ≡ length es = shows.2 refl in
    let s : ShowsUpTo places es (length es) board.list = subst (λ (k : ℕ). ShowsUpTo places es k board.list) last shows.1 in
    let told = law (summary_of places es) (λ m. refl) s.earlier (length es) items s.rises (subst (λ (l : List Summary). IsWatched l items) s.shown_are done.1) in
    record { count = done.0 ∙ ap (λ (k : ℕ). k + 1) count; sums = told.0; rises = told.1; last = told.2 }

-- a board on which the summary of no entries was shown
pub opens : (places : ℕ) (board : Listing) (first : Summary) → first ≡ summary_of places [] 0 → board.list ≡ first ∷ [] → BoardShows places [] false (Some board)
opens places board first sum shown = (
  0,
  record {
    earlier = [];
    rises = (omega arith, tt);
    within = omega arith;
    shown_are = shown ∙ ap (λ (x : Summary). x ∷ []) sum;
  },
  λ _. refl,
)
