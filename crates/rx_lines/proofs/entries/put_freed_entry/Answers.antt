use Rattle.std.proofs.Common.{◌++◌, ap}
use Rattle.rx_lines.proofs.Telling.{told-to}
use Rattle.rx_lines.proofs.LogLines.{release-is, root-is}
use Rattle.rx_lines.proofs.entries.put_freed_entry.Goals as goal

pub returns-in-Task : goal.returns-in-Task
returns-in-Task g c = rw c.in-Task.is (λ w f text now. told-to w f _ _ _ _ _ (c.put_release.ensures w f text now) (ap (λ z. text ++ z) (release-is _ _ _ _)))

pub returns-in-Root : goal.returns-in-Root
returns-in-Root g c = rw c.in-Root.is (λ w f text now. told-to w f _ _ _ _ _ (c.put_root.ensures w f text now) (ap (λ z. text ++ z) (root-is _ _)))
