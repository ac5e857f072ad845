use Rattle.text.proofs.writer.Writer.+put_places.Given as goal

abbrev pub decreases-put_places : goal.decreases-put_places
decreases-put_places l = l.k
