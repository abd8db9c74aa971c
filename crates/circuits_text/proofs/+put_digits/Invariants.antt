-- `put_digits` falls by its number. Assumes nothing.
use Rattle.circuits_text.proofs.+put_digits.Given as goal

abbrev pub decreases-put_digits : goal.decreases-put_digits
decreases-put_digits l = l.n
