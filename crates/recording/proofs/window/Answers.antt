-- What is found lies within the recording, and the part is cut there. Assumes nothing.
use Rattle.recording.proofs.Parts.{inside_of}
use Rattle.recording.proofs.window.Goals as goal

pub cut-requires : goal.cut-requires
cut-requires c = inside_of _ _ c.find.ensures
