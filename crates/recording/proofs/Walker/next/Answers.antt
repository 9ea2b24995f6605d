-- What `find` gives lies within the recording, so the part is cut there. Assumes nothing.
use Rattle.recording.proofs.Parts.{inside_of}
use Rattle.recording.proofs.Walker.next.Goals as goal

pub cut-symbols-requires : goal.cut-symbols-requires
cut-symbols-requires c = inside_of _ _ c.find-found.ensures
