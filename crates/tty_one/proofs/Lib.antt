mod Answered
pub mod AskedWords
mod BareJobs
mod Bared
mod ConsolesKeys
pub mod ConsolesPlayed
mod ConsolesReport
mod ConsolesRoom
pub mod ConsolesTexts
mod Judged
mod LoggedReport
mod LogsAlike
mod ModemLinesPlayed
mod ModemLinesReport
mod ModemLinesRoom
pub mod ModemLinesTexts
mod Numbered
mod OneReport
pub mod PlayedTexts
pub mod PortLemmas
mod Printed
mod ProcessesPlayed
mod ProcessesReport
mod ProcessesRoom
pub mod ProcessesTexts
pub mod ReadWork
pub mod Refused
mod ReportedLines
pub mod ReturnedWork
pub mod Roomy
pub mod ToldWork
mod WordLemmas
