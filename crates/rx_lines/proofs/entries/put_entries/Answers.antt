use Rattle.std.proofs.Common.{◌++◌, ◌∙◌, ap}
use Rattle.rx_rules.proofs.Common.{PlaceId}
use Rattle.rx_lines.specs.Inside.LogLines.{call_line, spawn_line, arrive_line}
use Rattle.rx_lines.proofs.Telling.{told-to}
use Rattle.rx_lines.proofs.LogLines.{open-is, call-is, spawn-is, arrive-is, wait-is, release-is, end-is, root-is, death-is, join-is}
use Rattle.rx_lines.proofs.entries.put_entries.Goals as goal

pub returns-in-Opened : goal.returns-in-Opened
returns-in-Opened g c = rw c.in-Opened.is (λ w f text now. told-to w f _ _ _ _ _ (c.put_opened.ensures w f text now) (ap (λ z. text ++ z) (open-is _ _ _ _)))

pub returns-in-Called : goal.returns-in-Called
returns-in-Called g c = rw c.in-Called.is (λ w f text now. told-to w f _ _ _ _ _ (c.put_called.ensures w f text now) (ap (λ z. text ++ z) (ap (λ (q : PlaceId). call_line c.args.n c.args.note.now.task c.in-Called.born.scope c.args.note.now.inner c.in-Called.born.child q c.args.note.now.to) c.place_of-from.ensures ∙ call-is _ _ _ _ _ _ _)))

pub returns-in-Spawned : goal.returns-in-Spawned
returns-in-Spawned g c = rw c.in-Spawned.is (λ w f text now. told-to w f _ _ _ _ _ (c.put_spawned.ensures w f text now) (ap (λ z. text ++ z) (ap (λ (q : PlaceId). spawn_line c.args.n c.args.note.now.task c.in-Spawned.born.child c.in-Spawned.born.scope q c.args.note.now.to) c.place_of-from.ensures ∙ spawn-is _ _ _ _ _ _)))

pub returns-in-Landed : goal.returns-in-Landed
returns-in-Landed g c = rw c.in-Landed.is (λ w f text now. told-to w f _ _ _ _ _ (c.put_arrived.ensures w f text now) (ap (λ z. text ++ z) (ap (λ (q : PlaceId). arrive_line c.args.n c.args.note.now.task q) c.landing_of.ensures ∙ arrive-is _ _ _)))

pub returns-in-Waits : goal.returns-in-Waits
returns-in-Waits g c = rw c.in-Waits.is (λ w f text now. told-to w f _ _ _ _ _ (c.put_waits.ensures w f text now) (ap (λ z. text ++ z) (wait-is _ _ _ _)))

pub returns-in-Released : goal.returns-in-Released
returns-in-Released g c = rw c.in-Released.is (λ w f text now. told-to w f _ _ _ _ _ (c.put_release.ensures w f text now) (ap (λ z. text ++ z) (release-is _ _ _ _)))

pub returns-in-Ended : goal.returns-in-Ended
returns-in-Ended g c = rw c.in-Ended.is (λ w f text now. told-to w f _ _ _ _ _ (c.put_ended.ensures w f text now) (ap (λ z. text ++ z) (end-is _ _ _)))

pub returns-in-Died : goal.returns-in-Died
returns-in-Died g c = rw c.in-Died.is (λ w f text now. told-to w f _ _ _ _ _ (c.put_place.ensures w f text now) (ap (λ z. text ++ z) (death-is _ _)))

pub returns-in-Joined : goal.returns-in-Joined
returns-in-Joined g c = rw c.in-Joined.is (λ w f text now. told-to w f _ _ _ _ _ (c.put_place-in-Joined.ensures w f text now) (ap (λ z. text ++ z) (join-is _ _)))

pub returns-in-RootDone : goal.returns-in-RootDone
returns-in-RootDone g c = rw c.in-RootDone.is (λ w f text now. told-to w f _ _ _ _ _ (c.put_root.ensures w f text now) (ap (λ z. text ++ z) (root-is _ _)))
