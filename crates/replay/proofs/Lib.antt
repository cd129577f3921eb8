mod NumberTexts
mod PieceTexts
mod SpelledOnce
mod PrintedRuns
mod WrittenRuns
mod ReadPieces
mod KnownItems
pub mod LinesOfSteps
pub mod RunsAreValid
pub mod FirstBadPlace
mod TraceTexts
