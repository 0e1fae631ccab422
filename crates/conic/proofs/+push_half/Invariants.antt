use Rattle.conic.proofs.+push_half.Given as goal

abbrev pub decreases-push_half : goal.decreases-push_half
decreases-push_half l = l.k
